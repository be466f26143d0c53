-- The list of loop sums, entered one node's row at a time: the pass over the edges (`enterings`), and the loop over the nodes (`summings`).
-- Assumes nothing.
use Rattle.std.specs.Prelude.{ℕ, zero, suc, ◌+◌, ◌<◌, ◌≤◌, ◌≡◌, refl, List, eqb, ltb, set, replicate}
use Rattle.std.proofs.Math.Decide.{ℕ_discrete, dec_lt}
use Rattle.std.proofs.Common.{arith, ◌∙◌, ext_get_or}
use Rattle.std.proofs.Math.Path.{sym, ap}
use borrow.Author.Tests.{lt-ltb, le-ltb, eq-eqb, ne_eqb}
use Rattle.std.proofs.lemmas.List.{length-replicate, set-get_or}
use Rattle.loops.specs.Choice.{at, if, if_true, if_false}
use Rattle.loops.specs.Row.{stored, Row, row_begin, row_more, row_over, stored_length, stored_at, stored_other}
use Rattle.loops.specs.Table.{entries, padded, padded_length, padded_at, padded_past, zeros_at}
use Rattle.routes.specs.Rows.{emptiest_row}
use Rattle.cycles.specs.Lent.{loop_sum_in, entered, Known}

-- the invariant of the pass over the edges at edge e: the entries below e are entered from node v's row
pub record Entering (source destination tokens row : List ℕ) (v : ℕ) (sums : List ℕ) (edges e : ℕ) (x : List ℕ) : Type 0 where
  pub passed : Row (entered source destination tokens row v sums) 0 sums edges e x

pub enter_begin : (source destination tokens row : List ℕ) (v : ℕ) (sums : List ℕ) (edges : ℕ) → Entering source destination tokens row v sums edges 0 sums
enter_begin source destination tokens row v sums edges = record { passed = row_begin (entered source destination tokens row v sums) 0 sums edges }

-- a turn: the entry is written anew or as it stands
pub enter_more : {source destination tokens row sums : List ℕ} {v edges e : ℕ} {x : List ℕ} {through r : ℕ}
    → Entering source destination tokens row v sums edges e x → e < edges → through ≡ at tokens e + at row (at source e)
    → r ≡ if (eqb (at destination e) v) through (at x e) → Entering source destination tokens row v sums edges (e + 1) (set x e r)
unfolding entered
enter_more {source} {destination} {tokens} {row} {sums} {v} {e = e} {x} inv h p r =
    let f = entered source destination tokens row v sums in
    let z : 0 + e ≡ e = omega arith in
    let kept : at x e ≡ at sums e = ap (λ l. at l e) inv.passed.so_far ∙ stored_other f 0 sums e e (λ j m y. omega arith) in
    record { passed = rw z at (row_more inv.passed h (r ∙ rw (p, kept))) }

-- an edge into node v has its sum written
pub enter_written : {source destination tokens row sums : List ℕ} {v edges e : ℕ} {x : List ℕ} {through : ℕ}
    → Entering source destination tokens row v sums edges e x → e < edges → through ≡ at tokens e + at row (at source e) → at destination e ≡ v
    → Entering source destination tokens row v sums edges (e + 1) (set x e through)
enter_written {destination = destination} {v = v} {e = e} inv h p q = enter_more inv h p (sym (if_true (eqb (at destination e) v) _ _ (eq-eqb _ _ q)))

-- any other edge's entry stays
pub enter_kept : {source destination tokens row sums : List ℕ} {v edges e : ℕ} {x : List ℕ}
    → Entering source destination tokens row v sums edges e x → e < edges → (at destination e ≡ v → ⊥)
    → Entering source destination tokens row v sums edges (e + 1) x
enter_kept {destination = destination} {v = v} {e = e} {x = x} inv h q =
    rw (set-get_or x e 0) at (enter_more inv h refl (sym (if_false (eqb (at destination e) v) _ _ (ne_eqb _ _ q))))

pub enter_over : {source destination tokens row sums : List ℕ} {v edges e : ℕ} {x : List ℕ}
    → Entering source destination tokens row v sums edges e x → edges ≤ e → x ≡ stored (entered source destination tokens row v sums) 0 sums edges
enter_over inv h = row_over inv.passed h

pub ruleset enterings = (enter_begin, enter_written, enter_kept, enter_over)

-- two tables with the same entries
padded_same : (f g : ℕ → ℕ) (size n : ℕ) → ((k : ℕ) → k < n → f k ≡ g k) → padded f size n ≡ padded g size n
unfolding padded entries
padded_same f g size n h = rw (entries_same n h)
  where
    entries_same : (m : ℕ) → ((k : ℕ) → k < m → f k ≡ g k) → entries f m ≡ entries g m
    entries_same zero h = refl
    entries_same (suc m) h = rw (entries_same m (λ k l. h k (omega arith)), h m (omega arith))

-- a table whose every entry is stored anew
stored_over : (f g : ℕ → ℕ) (size n : ℕ) → n ≤ size → stored f 0 (padded g size n) n ≡ padded f size n
stored_over f g size n h =
    ext_get_or 0 (stored f 0 (padded g size n) n) (padded f size n)
    (stored_length f 0 (padded g size n) n ∙ padded_length g size n h ∙ sym (padded_length f size n h))
    (λ k l.
    elim (dec_lt k n) [
      | yes p ↦
          (let z : 0 + k ≡ k = omega arith in rw z at (stored_at f 0 (padded g size n) n k p (omega (arith, padded_length g size n h)))) ∙ sym (padded_at f size n k p)
      | no p ↦
          stored_other f 0 (padded g size n) n k (λ j m q. omega arith) ∙ padded_past g size n k (omega arith) ∙ sym (padded_past f size n k (omega arith))
    ])

module _ (source destination tokens : List ℕ) (edges : ℕ) where
  -- entry e once the rows of the nodes below v are entered: the loop sum of an edge that ends below v, else 0
  unfoldable pub sum_below : ℕ → ℕ → ℕ
  sum_below v e = if (ltb (at destination e) v) (loop_sum_in source destination tokens edges e) 0

  below_next : (v e : ℕ) (sums : List ℕ) → at sums e ≡ sum_below v e
      → entered source destination tokens (emptiest_row source destination tokens edges v) v sums e ≡ sum_below (v + 1) e
  unfolding entered sum_below loop_sum_in
  below_next v e sums h =
      elim (ℕ_discrete (at destination e) v) [
        | yes p ↦
            if_true (eqb (at destination e) v) _ _ (eq-eqb (at destination e) v p)
            ∙ ap (λ k. at tokens e + at (emptiest_row source destination tokens edges k) (at source e)) (sym p)
            ∙ sym (if_true (ltb (at destination e) (v + 1)) _ _ (lt-ltb (at destination e) (v + 1) (omega arith)))
        | no p ↦ if_false (eqb (at destination e) v) _ _ (ne_eqb (at destination e) v p) ∙ h ∙ rest p
      ]
    where
      rest : (at destination e ≡ v → ⊥) → sum_below v e ≡ sum_below (v + 1) e
      rest p =
          elim (dec_lt (at destination e) v) [
            | yes l ↦ rw (lt-ltb (at destination e) v l, lt-ltb (at destination e) (v + 1) (omega arith))
            | no l ↦ rw (le-ltb (at destination e) v (omega arith), le-ltb (at destination e) (v + 1) (omega arith))
          ]

-- the invariant at node v
pub record Summed (source destination tokens : List ℕ) (edges nodes v : ℕ) (sums : List ℕ) : Type 0 where
  pub within : v ≤ nodes
  pub so_far : sums ≡ padded (sum_below source destination tokens edges v) 512 edges

pub summed_begin : (source destination tokens : List ℕ) (edges nodes : ℕ) → edges ≤ 512
    → Summed source destination tokens edges nodes 0 (replicate 512 0)
unfolding sum_below
summed_begin source destination tokens edges nodes h =
    record {
      within = omega arith;
      so_far =
          ext_get_or 0 (replicate 512 0) (padded below 512 edges) (length-replicate {A = ℕ} 512 0 ∙ sym (padded_length below 512 edges h))
          (λ k l. zeros_at 512 k ∙ sym (none k));
    }
  where
    below : ℕ → ℕ
    below = sum_below source destination tokens edges 0

    none : (k : ℕ) → at (padded below 512 edges) k ≡ 0
    none k =
        elim (dec_lt k edges) [
          | yes p ↦ padded_at below 512 edges k p ∙ if_false (ltb (at destination k) 0) _ _ (le-ltb (at destination k) 0 (omega arith))
          | no p ↦ padded_past below 512 edges k (omega arith)
        ]

pub summed_more : {source destination tokens : List ℕ} {edges nodes v : ℕ} {sums row out : List ℕ}
    → Summed source destination tokens edges nodes v sums → v < nodes → edges ≤ 512 → row ≡ emptiest_row source destination tokens edges v
    → out ≡ stored (entered source destination tokens row v sums) 0 sums edges → Summed source destination tokens edges nodes (v + 1) out
summed_more {source} {destination} {tokens} {edges} {nodes} {v} {sums} {row} inv h few p q =
    record { within = omega arith; so_far = q ∙ rw p (rw inv.so_far (stored_over _ _ 512 edges few) ∙ padded_same _ _ 512 edges next) }
  where
    next : (e : ℕ) → e < edges
        → entered source destination tokens (emptiest_row source destination tokens edges v) v (padded (sum_below source destination tokens edges v) 512 edges) e
        ≡ sum_below source destination tokens edges (v + 1) e
    next e l =
        below_next source destination tokens edges v e (padded (sum_below source destination tokens edges v) 512 edges)
        (padded_at (sum_below source destination tokens edges v) 512 edges e l)

pub summed_over : {source destination tokens : List ℕ} {edges nodes v : ℕ} {sums : List ℕ}
    → Summed source destination tokens edges nodes v sums → nodes ≤ v → Known destination nodes edges
    → sums ≡ padded (loop_sum_in source destination tokens edges) 512 edges
unfolding sum_below
summed_over {source} {destination} {tokens} {edges} {v = v} inv h known =
    inv.so_far
    ∙ padded_same (sum_below source destination tokens edges v) (loop_sum_in source destination tokens edges) 512 edges
    (λ e l. if_true (ltb (at destination e) v) _ _ (lt-ltb (at destination e) v (omega (arith, known e l))))

pub ruleset summings = (summed_begin, summed_more, summed_over)
