-- Where every cycle holds a token, a chosen node can be fired: first, in turn, all that stands before it on token-free routes.
-- Assumes nothing.
use Rattle.std.specs.Prelude.{◌≡◌, length}
use Rattle.std.proofs.Math.Path.{refl, ap, subst}
use Rattle.std.proofs.Common.{sym, inl, inr}
use mathlib.Core.List.{List, [], ◌∷◌, ◌++◌}
use Prim.Native.Nat.{ℕ, zero, suc, ◌+◌, ◌≤◌, ◌<◌}
use native.Mathlib.Omega.{arith}
use Rattle.std.proofs.Math.Decide.{ℕ_discrete, dec_lt}
use Rattle.net.specs.Graph.{Graph, Marking, Shaped, firings, tokens_on, Fireable, after, Legal, Route, TokenFree, EveryCycleHolds}
use Rattle.net.specs.Counts.{same_or_not, one_if_same_self, firings_snoc}
use Rattle.net.specs.Append.{tokens_on_append, legal_snoc}
use Rattle.net.specs.Tokens.{tokens_now}
use Rattle.net.specs.Looped.{Looped}
use Rattle.net.specs.Shorten.{long_looped}
use Rattle.net.specs.Towards.{Towards}

module _ (G : Graph) (μ : Marking) (x : ℕ) where
  -- such an order in which fires what fires in s, and something is done
  record Further (s : List ℕ) (Done : List ℕ → Type 0) : Type 0 where
    order : List ℕ
    towards : Towards G μ x order
    kept : (z : ℕ) → firings z s ≤ firings z order
    done : Done order

  -- y has fired
  abbrev Fired : ℕ → List ℕ → Type 0
  Fired y t = 0 < firings y t

  -- behind each edge into y without tokens, of the edges below j, the source has fired
  abbrev Fed : ℕ → ℕ → List ℕ → Type 0
  Fed y j t = (e : ℕ) → e < j → G.destination e ≡ y → μ e ≡ 0 → Fired (G.source e) t

  -- a node that is fed and has not fired may fire
  fed_fireable : (y : ℕ) (t : List ℕ) → Legal G μ t → Fed y G.edges t → firings y t ≡ 0 → Fireable G (after G μ t) y
  unfolding Fireable
  fed_fireable y t l fed z e h p =
      let now = tokens_now G μ t l e h in
      let end = ap (λ v. firings v t) p in
      elim (dec_lt 0 (μ e)) [ yes q ↦ omega arith | no q ↦ omega (arith, fed e h p (omega arith)) ]

  -- so it is fired, if it has not
  fire_fed : (y : ℕ) (s : List ℕ) → y < G.nodes → TokenFree G μ y x → Further s (Fed y G.edges) → Further s (Fired y)
  fire_fed y s h free f =
      elim (dec_lt 0 (firings y t)) [
        | yes p ↦ record { order = t; towards = f.towards; kept = f.kept; done = p }
        | no p ↦
            record {
              order = t ++ (y ∷ []);
              towards = record {
                legal = legal_snoc G μ t y f.towards.legal h (fed_fireable y t f.towards.legal f.done (omega arith));
                once = λ z.
                    elim (same_or_not z y) [
                      | inl q ↦ omega (arith, firings_snoc z y t, ap (λ v. firings v t) q.0)
                      | inr q ↦ omega (arith, firings_snoc z y t, f.towards.once z)
                    ];
                near = λ z i.
                    elim (same_or_not z y) [
                      | inl q ↦ subst (λ v. TokenFree G μ v x) (sym q.0) free
                      | inr q ↦ f.towards.near z (omega (arith, firings_snoc z y t))
                    ];
              };
              kept = λ z. omega (arith, firings_snoc z y t, f.kept z);
              done = omega (arith, firings_snoc y y t, one_if_same_self y);
            }
      ]
    where
      t : List ℕ
      t = f.order

  -- a node is fed, edge after edge, where the source of each edge without tokens can be fired
  feed : (y : ℕ) → ((e : ℕ) → e < G.edges → G.destination e ≡ y → μ e ≡ 0 → (s : List ℕ) → Towards G μ x s → Further s (Fired (G.source e)))
      → (j : ℕ) → j ≤ G.edges → (s : List ℕ) → Towards G μ x s → Further s (Fed y j)
  feed y g zero h s a = record { order = s; towards = a; kept = λ z. omega arith; done = λ e l p z. absurd (omega arith) }
  feed y g (suc j) h s a = next (feed y g j (omega arith) s a)
    where
      -- edge j as well
      with : (t : List ℕ) → Fed y j t → (G.destination j ≡ y → μ j ≡ 0 → Fired (G.source j) t) → Fed y (suc j) t
      with t f i e l p z =
          elim (ℕ_discrete e j) [
            | yes q ↦ subst (λ v. G.destination v ≡ y → μ v ≡ 0 → Fired (G.source v) t) (sym q) i p z
            | no q ↦ f e (omega arith) p z
          ]

      pass : Further s (Fed y j) → (G.destination j ≡ y → μ j ≡ 0 → ⊥) → Further s (Fed y (suc j))
      pass f n = record { order = f.order; towards = f.towards; kept = f.kept; done = with f.order f.done (λ p z. absurd (n p z)) }

      take : (f : Further s (Fed y j)) → Further f.order (Fired (G.source j)) → Further s (Fed y (suc j))
      take f t =
          record {
            order = t.order;
            towards = t.towards;
            kept = λ z. omega (arith, f.kept z, t.kept z);
            done = with t.order (λ e l p z. omega (arith, f.done e l p z, t.kept (G.source e))) (λ p z. t.done);
          }

      next : Further s (Fed y j) → Further s (Fed y (suc j))
      next f =
          elim (ℕ_discrete (G.destination j) y) [
            | no p ↦ pass f (λ q z. p q)
            | yes p ↦
                elim (ℕ_discrete (μ j) 0) [
                  | no z ↦ pass f (λ q w. z w)
                  | yes z ↦ take f (g j (omega arith) p z f.order f.towards)
                ]
          ]

  module _ (shaped : Shaped G) (holds : EveryCycleHolds G μ) where
    -- a token-free route has fewer edges than there are nodes
    token_free_few : (es : List ℕ) (y : ℕ) → y < G.nodes → Route G y es x → tokens_on μ es ≡ 0 → length es < G.nodes
    unfolding EveryCycleHolds
    token_free_few es y h r z =
        elim (dec_lt (length es) G.nodes) [
          | yes p ↦ p
          | no p ↦
              let t : Looped G y x es = long_looped G shaped es y x h r (omega arith) in
              omega (arith, holds t.at t.cycle t.round, simp tokens_on_append at (ap (tokens_on μ) t.whole))
        ]

    -- every node with a token-free route to x is fired: k bounds how far back from it such routes go
    visit : (k y : ℕ) (es : List ℕ) → y < G.nodes → Route G y es x → tokens_on μ es ≡ 0 → G.nodes ≤ length es + k
        → (s : List ℕ) → Towards G μ x s → Further s (Fired y)
    unfolding Route tokens_on
    visit zero y es h r z b s a = absurd (let l = token_free_few es y h r z in omega arith)
    visit (suc k) y es h r z b s a =
        fire_fed y s h (es, r, z)
        (feed y
        (λ e i p t. visit k (G.source e) (e ∷ es) (shaped.source_lt e i) (i, refl, subst (λ v. Route G v es x) (sym p) r) (omega arith) (omega arith))
        G.edges (omega arith) s a)

    -- so is x itself
    pub towards : x < G.nodes → (t : List ℕ) × Towards G μ x t × (0 < firings x t)
    unfolding Route tokens_on Legal firings
    towards h =
        let f = visit G.nodes x [] h refl refl (omega arith) [] (record { legal = tt; once = λ y. omega arith; near = λ y i. absurd (omega arith) }) in
        (f.order, f.towards, f.done)
