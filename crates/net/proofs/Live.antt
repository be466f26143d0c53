-- Where every cycle holds a token, no legal order comes to an end: any chosen node can be fired.
-- Assumes nothing.
use Rattle.std.specs.Prelude.{◌≡◌, refl, ℕ, ◌≤◌, ◌<◌}
use Rattle.std.proofs.Common.{ap, subst, arith}
use mathlib.Core.List.{List, [], ◌∷◌, ◌++◌}
use Rattle.net.specs.Graph.{Graph, Marking, Shaped, firings, Fireable, after, Legal, TokenFree, EveryCycleHolds}
use Rattle.net.specs.Counts.{one_if_same_self, firings_append, firings_snoc, firings_first}
use Rattle.net.specs.Append.{legal_prefix}
use Rattle.net.specs.Tokens.{lead}
use Rattle.net.specs.Towards.{Towards}
use Rattle.net.specs.Live.{FiredBy, holds_after}
use Rattle.net.proofs.Towards.{towards}

module _ (G : Graph) (μ : Marking) where
  module _ (shaped : Shaped G) (holds : EveryCycleHolds G μ) where
    -- any node can be fired
    can_fire_now : (x : ℕ) → x < G.nodes → (t : List ℕ) × FiredBy G μ x t
    can_fire_now x h = let a = towards G μ x shaped holds h in cut a.0 a.1 (firings_first x a.0 a.2)
      where
        cut : (s : List ℕ) → Towards G μ x s → (t u : List ℕ) × (s ≡ (t ++ (x ∷ [])) ++ u) → (t : List ℕ) × FiredBy G μ x t
        cut s a c = (t, record { legal = l; once = once; near = λ y i. a.near y (omega (arith, part y)); all = all; done = done; last = (c.0, refl) })
          where
            t : List ℕ
            t = c.0 ++ (x ∷ [])

            l : Legal G μ t
            l = (legal_prefix G μ t c.1 (subst (Legal G μ) c.2 a.legal)).0

            part : (y : ℕ) → firings y t ≤ firings y s
            part y = omega (arith, firings_append y t c.1, ap (firings y) c.2)

            once : (y : ℕ) → firings y t ≤ 1
            once y = omega (arith, part y, a.once y)

            done : firings x t ≡ 1
            done = omega (arith, once x, firings_snoc x x c.0, one_if_same_self x)

            all : (y : ℕ) → TokenFree G μ y x → firings y t ≡ 1
            all y free = omega (arith, lead G μ t l free.0 y x free.1, free.2, done, once y)

    -- so some node may fire
    some_now : 0 < G.nodes → (n : ℕ) × (n < G.nodes) × Fireable G μ n
    unfolding Legal firings
    some_now h = let t = can_fire_now 0 h in first t.0 t.1.legal t.1.done
      where
        first : (t : List ℕ) → Legal G μ t → firings 0 t ≡ 1 → (n : ℕ) × (n < G.nodes) × Fireable G μ n
        first [] l d = absurd (omega arith)
        first (n ∷ t) l d = (n, l.0, l.1)

module _ (G : Graph) (μ : Marking) (shaped : Shaped G) (holds : EveryCycleHolds G μ) (s : List ℕ) (l : Legal G μ s) where
  -- after any legal order any chosen node can be fired
  pub can_fire : (x : ℕ) → x < G.nodes → (t : List ℕ) × FiredBy G (after G μ s) x t
  can_fire = can_fire_now G (after G μ s) shaped (holds_after G μ shaped holds s l)

  -- after any legal order some node may fire, if there is one at all
  pub some_fireable : 0 < G.nodes → (n : ℕ) × (n < G.nodes) × Fireable G (after G μ s) n
  some_fireable = some_now G (after G μ s) shaped (holds_after G μ shaped holds s l)
