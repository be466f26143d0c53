-- How far a node may get ahead of another: the limit of `lead` is reached.
-- Assumes nothing.
use Rattle.std.specs.Prelude.{◌≡◌}
use Rattle.std.proofs.Math.Path.{refl}
use mathlib.Core.List.{List, [], ◌++◌}
use Prim.Native.Nat.{ℕ, zero, suc, ◌≤◌, ◌<◌}
use native.Mathlib.Omega.{arith}
use Rattle.std.proofs.Math.Decide.{dec_lt}
use Rattle.net.specs.Graph.{Graph, Marking, Shaped, firings, tokens_on, after, Legal, Route, Emptiest, Linked, EveryCycleHolds}
use Rattle.net.specs.Counts.{firings_append}
use Rattle.net.specs.Append.{legal_append}
use Rattle.net.specs.Tokens.{route_tokens_now}
use Rattle.net.specs.Live.{FiredBy}
use Rattle.net.specs.Lead.{Ahead}
use Rattle.net.proofs.Live.{can_fire}

module _ (G : Graph) (μ : Marking) (shaped : Shaped G) (holds : EveryCycleHolds G μ) (m n : ℕ) (h : n < G.nodes) where
  -- there is one where each route from m to n holds k tokens or more
  ahead : (k : ℕ) → ((es : List ℕ) → Route G m es n → k ≤ tokens_on μ es) → Ahead G μ m n k
  unfolding Legal firings
  ahead zero f = ([], tt, refl, refl)
  ahead (suc k) f = more (ahead k (λ es r. omega (arith, f es r)))
    where
      more : Ahead G μ m n k → Ahead G μ m n (suc k)
      more a = next (can_fire G μ shaped holds a.0 a.1 n h)
        where
          next : (t : List ℕ) × FiredBy G (after G μ a.0) n t → Ahead G μ m n (suc k)
          next (t, b) = (
            a.0 ++ t,
            legal_append G μ a.0 t a.1 b.legal,
            omega (arith, firings_append m a.0 t, a.2, still),
            omega (arith, firings_append n a.0 t, a.3, b.done),
          )
            where
              -- else a token-free route would lead from m to n
              still : firings m t ≡ 0
              still =
                  elim (dec_lt 0 (firings m t)) [
                    | yes p ↦
                        let q = b.near m p in
                        omega (arith, f q.0 q.1, route_tokens_now G μ a.0 a.1 q.0 m n q.1, q.2, a.2, a.3)
                    | no p ↦ omega arith
                  ]

  -- n gets ahead of m by the tokens of the emptiest route
  pub lead_reached : (d : ℕ) → Emptiest G μ m n d → Ahead G μ m n d
  lead_reached d a = ahead d a.least

  -- and as far as one likes where no route leads from m to n
  pub unlinked_free : (Linked G m n → ⊥) → (k : ℕ) → Ahead G μ m n k
  unlinked_free f k = ahead k (λ es r. absurd (f (es, r)))
