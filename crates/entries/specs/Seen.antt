-- The firing order tested by a row of the nodes seen so far. Assumes nothing.
use Rattle.std.specs.Prelude.{ℕ, ◌+◌, ◌<◌, ◌≤◌, ◌≡◌, refl, List, Bool, true, false, eqb, leb, length, get_or, set, replicate, Some, None, zero, suc}
use Rattle.std.proofs.Math.Decide.{ℕ_discrete}
use Rattle.std.proofs.Common.{eq-or-lt_of_le, arith, sym, ap, ◌∙◌, ⊎_elim, le-leb, lt-ltb, le-ltb, eq-eqb, ne_eqb, length-set, get_or-set_same, get_or-set_other}
use Rattle.std.proofs.lemmas.Bool.{lt-leb}
use Rattle.std.proofs.lemmas.List.{length-replicate}
use Rattle.loops.specs.Choice.{at, if, either_left, either_right, either_none}
use Rattle.loops.specs.First.{first, First, first_begin, first_hit, first_miss, first_over}
use Rattle.loops.specs.Values.{lowest}
use Rattle.loops.specs.Any.{any, any_some, any_from, any_all, any_none}
use Rattle.plan.specs.Tests.{same_entry, bad_order}

-- the place of a search that has ended, as what it finds
found : (f : ℕ → Bool) {n i : ℕ} → i ≡ first f n → i < n → Some i ≡ lowest f n
unfolding lowest if
found f {n} {i} e h = rw (← e, lt-ltb i n h)

not_found : (f : ℕ → Bool) {n i : ℕ} → i ≡ first f n → n ≤ i → None ≡ lowest f n
unfolding lowest if
not_found f {n} {i} e h = rw (← e, le-ltb i n h)

-- node v stands at a position below i
unfoldable pub seen_in : List ℕ → ℕ → ℕ → Bool
seen_in order i v = any (λ j. eqb (at order j) v) i

-- the invariant at position i
pub record Seeing (order : List ℕ) (nodes i : ℕ) (x : List Bool) : Type 0 where
  pub so_far : First (bad_order order nodes) nodes i
  pub long : length x ≡ 64
  pub row : (v : ℕ) → get_or x v false ≡ seen_in order i v

none_seen : (n v : ℕ) → get_or (replicate n false) v false ≡ false
none_seen zero v = refl
none_seen (suc n) zero = refl
none_seen (suc n) (suc v) = none_seen n v

pub seeing_begin : (order : List ℕ) (nodes : ℕ) → Seeing order nodes 0 (replicate 64 false)
unfolding seen_in
seeing_begin order nodes =
    record {
      so_far = first_begin (bad_order order nodes) nodes;
      long = length-replicate {A = Bool} 64 false;
      row = λ v. none_seen 64 v ∙ sym (any_all (λ j. eqb (at order j) v) 0 (λ k h. absurd (omega arith)));
    }

-- a position one further
next_same : (order : List ℕ) (i v : ℕ) → at order i ≡ v → seen_in order (i + 1) v ≡ true
unfolding seen_in
next_same order i v e = any_from (λ j. eqb (at order j) v) (i + 1) i (omega arith) (eq-eqb (at order i) v e)

next_other : (order : List ℕ) (i v : ℕ) → (at order i ≡ v → ⊥) → seen_in order (i + 1) v ≡ seen_in order i v
unfolding seen_in
next_other order i v d = go (any f i) refl
  where
    f : ℕ → Bool
    f j = eqb (at order j) v

    go : (b : Bool) → any f i ≡ b → any f (i + 1) ≡ b
    go true e = let s = any_some f i e in any_from f (i + 1) s.0 (omega (arith, s.1)) s.2
    go false e =
        any_all f (i + 1)
        (λ k h. ⊎_elim (λ q. ap f q ∙ ne_eqb (at order i) v d) (λ l. any_none f i k e l) (eq-or-lt_of_le (let z : k ≤ i = omega arith in z)))

pub seeing_more : {order : List ℕ} {nodes i v : ℕ} {x : List Bool} → Seeing order nodes i x → i < nodes → nodes ≤ 64 → v ≡ at order i → v < nodes
    → get_or x v false ≡ false → Seeing order nodes (i + 1) (set x v true)
unfolding bad_order same_entry seen_in
seeing_more {order} {nodes} {i} {v} {x} inv h few e l new =
    record {
      so_far =
          first_miss inv.so_far h refl
          (either_none (leb nodes (at order i)) _ (lt-leb nodes (at order i) (omega arith)) (sym (inv.row (at order i)) ∙ rw (← e) new));
      long = length-set x v true ∙ inv.long;
      row = λ w.
          elim (ℕ_discrete v w) [
            | yes q ↦
                ap (λ k. get_or (set x v true) k false) (sym q) ∙ get_or-set_same x v true false (omega (arith, inv.long))
                ∙ sym (next_same order i w (sym e ∙ q))
            | no q ↦ get_or-set_other x v w true false (λ z. q (sym z)) ∙ inv.row w ∙ sym (next_other order i w (λ z. q (e ∙ z)))
          ];
    }

-- an entry that is no node, and one that was seen
pub seeing_high : {order : List ℕ} {nodes i : ℕ} {x : List Bool} → Seeing order nodes i x → i < nodes → nodes ≤ at order i → Some i ≡ lowest (bad_order order nodes) nodes
unfolding bad_order
seeing_high {order} {nodes} {i} inv h l = found _ (first_hit inv.so_far h refl (either_left (leb nodes (at order i)) _ (le-leb nodes (at order i) l))) h

pub seeing_seen : {order : List ℕ} {nodes i : ℕ} {x : List Bool} → Seeing order nodes i x → i < nodes → get_or x (at order i) false ≡ true
    → Some i ≡ lowest (bad_order order nodes) nodes
unfolding bad_order same_entry seen_in
seeing_seen {order} {nodes} {i} inv h old =
    found _ (first_hit inv.so_far h refl (either_right (leb nodes (at order i)) _ (sym (inv.row (at order i)) ∙ old))) h

pub seeing_over : {order : List ℕ} {nodes i : ℕ} {x : List Bool} → Seeing order nodes i x → nodes ≤ i → None ≡ lowest (bad_order order nodes) nodes
seeing_over inv h = not_found _ (first_over inv.so_far h) h

-- what answers the goals of such a pass
pub ruleset seeing = (seeing_begin, seeing_more, seeing_high, seeing_seen, seeing_over)
