-- A route that comes to a node twice goes round a cycle.
-- Assumes nothing.
use Rattle.std.specs.Prelude.{◌≡◌, length}
use Rattle.std.proofs.Math.Path.{refl, sym, ap, subst}
use Rattle.std.proofs.Common.{◌∙◌}
use mathlib.Core.List.{List, [], ◌∷◌, ◌++◌}
use Rattle.std.proofs.Math.Logic.{inl, inr}
use Prim.Native.Nat.{ℕ, suc, ◌≤◌, ◌<◌}
use native.Mathlib.Omega.{arith}
use Rattle.net.specs.Graph.{Graph, Shaped, one_if_same, firings, Route, Cycle}
use Rattle.net.specs.Counts.{same_or_not, Below}

module _ (G : Graph) where
  -- the nodes that a list of edges comes to, without the one that it starts at
  unfoldable pub stops : List ℕ → List ℕ
  stops [] = []
  stops (e ∷ es) = G.destination e ∷ stops es

  -- there are as many as edges
  pub stops_length : (es : List ℕ) → length (stops es) ≡ length es
  unfolding stops
  stops_length [] = refl
  stops_length (e ∷ es) = ap suc (stops_length es)

  -- and they are nodes
  pub stops_below : Shaped G → (es : List ℕ) (m n : ℕ) → Route G m es n → Below G.nodes (stops es)
  unfolding stops Route Below
  stops_below w [] m n r = tt
  stops_below w (e ∷ es) m n r = (w.destination_lt e r.0, stops_below w es (G.destination e) n r.2)

  -- a route from m to n parted at its first visit of v
  record Parted (m v n : ℕ) (es : List ℕ) : Type 0 where
    front : List ℕ
    back : List ℕ
    whole : es ≡ front ++ back
    before : Route G m front v
    behind : Route G v back n
    left : firings v (m ∷ stops es) ≡ suc (firings v (stops back))

  -- at its start
  part_here : (v : ℕ) (es : List ℕ) (m n : ℕ) → Route G m es n → v ≡ m → one_if_same v m ≡ 1 → Parted m v n es
  unfolding Route firings
  part_here v es m n r p z =
      record { front = []; back = es; whole = refl; before = sym p; behind = subst (λ x. Route G x es n) (sym p) r; left = omega arith }

  part : (v : ℕ) (es : List ℕ) (m n : ℕ) → Route G m es n → 0 < firings v (m ∷ stops es) → Parted m v n es
  unfolding Route stops firings
  part v [] m n r h = elim (same_or_not v m) [ inl p ↦ part_here v [] m n r p.0 p.1 | inr p ↦ absurd (omega arith) ]
  part v (e ∷ es) m n r h =
      elim (same_or_not v m) [
        | inl p ↦ part_here v (e ∷ es) m n r p.0 p.1
        | inr p ↦
            let t : Parted (G.destination e) v n es = part v es (G.destination e) n r.2 (omega arith) in
            record {
              front = e ∷ t.front;
              back = t.back;
              whole = ap (e ∷◌) t.whole;
              before = (r.0, r.1, t.before);
              behind = t.behind;
              left = omega arith;
            }
      ]

  -- a route from m to n with a cycle in it
  pub record Looped (m n : ℕ) (es : List ℕ) : Type 0 where
    pub at : ℕ
    pub front : List ℕ
    pub cycle : List ℕ
    pub back : List ℕ
    pub whole : es ≡ front ++ (cycle ++ back)
    pub before : Route G m front at
    pub round : Cycle G at cycle
    pub behind : Route G at back n

  -- a route that visits a node twice has one
  pub looped : (v : ℕ) (es : List ℕ) (m n : ℕ) → Route G m es n → 2 ≤ firings v (m ∷ stops es) → Looped m n es
  unfolding Route stops firings
  looped v es m n r h = let t : Parted m v n es = part v es m n r (omega arith) in again t.back t refl (omega arith)
    where
      joined : (e : ℕ) (es' : List ℕ) (t : Parted m v n es) → t.back ≡ e ∷ es' → Route G v (e ∷ es') n → Parted (G.destination e) v n es' → Looped m n es
      joined e es' t p r' u =
          record {
            at = v;
            front = t.front;
            cycle = e ∷ u.front;
            back = u.back;
            whole = t.whole ∙ ap (t.front ++◌) (p ∙ ap (e ∷◌) u.whole);
            before = t.before;
            round = ((r'.0, r'.1, u.before), omega arith);
            behind = u.behind;
          }

      again : (back : List ℕ) (t : Parted m v n es) → t.back ≡ back → 0 < firings v (stops back) → Looped m n es
      again [] t p k = absurd (omega arith)
      again (e ∷ es') t p k =
          let r' : Route G v (e ∷ es') n = subst (λ l. Route G v l n) p t.behind in
          joined e es' t p r' (part v es' (G.destination e) n r'.2 k)
