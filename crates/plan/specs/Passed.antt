-- The tests of the program are the faults of 01's table, number by number, and a search for the lowest place finds the lowest fault.
-- Assumes nothing.
use Rattle.std.specs.Prelude.{ℕ, suc, ◌-◌, ◌≤◌, ◌<◌, ◌≡◌, refl, Bool, true, false, ◌⊎◌, ◌≢◌, ◌↔◌, eqb, ltb, leb}
use Rattle.std.proofs.Common.{sym, ◌∙◌, arith}
use Rattle.std.proofs.Math.Logic.{inl, inr, ⊎_elim}
use Rattle.std.proofs.Math.Decide.{ℕ_discrete}
use borrow.Author.Tests.{ltb-true, ltb-false, leb-true, eqb-true, eqb-false, lt-ltb, le-ltb, le-leb, eq-eqb, ne_eqb}
use Rattle.loops.specs.Choice.{at, true_false, not_true, not-false, both, both_true, both_intro, either_true, either_false, either_left, either_right, either_none}
use Rattle.loops.specs.First.{first, first_le, first_below, first_here, first_none, first_all}
use Rattle.loops.specs.Any.{any, any_some, any_from}
use Rattle.plan.specs.declared.Plan.{Plan}
use Rattle.plan.specs.Order.{Passes}
use Rattle.plan.specs.Value.{base}
use Rattle.plan.specs.Faults.{CountsFit, Fault3, Fault5, Fault6, Fault7, Fault8, Above}
use Rattle.plan.specs.Tests.{outside, bad_counts, zero_length, same_entry, bad_order, bad_node, not_above, not_rising, bad_edge}

-- test f, at the places below n, is the fault
abbrev pub IsFault : (ℕ → Bool) → ℕ → (ℕ → Type 0) → Type 0
IsFault f n Fault = (place : ℕ) → ((place < n) × (f place ≡ true)) ↔ Fault place

module _ {f : ℕ → Bool} {n : ℕ} {Fault : ℕ → Type 0} (is : IsFault f n Fault) where
  -- it ends at n exactly where the test passes
  pub passes : n ≤ first f n → Passes Fault
  passes h place t = let s = (is place).1 t in true_false (sym s.1 ∙ first_none f n place h s.0)

  pub passed : Passes Fault → first f n ≡ n
  passed p = first_all f n (λ k h. not_true (f k) (λ t. p k ((is k).0 (h, t))))

-- number 3: a count or N outside its bounds
inside : (low high x : ℕ) → outside low high x ≡ false → (low ≤ x) × (x ≤ high)
unfolding outside
inside low high x e = let t = either_false (ltb x low) (ltb high x) e in (ltb-false x low t.0, ltb-false high x t.1)

not_outside : (low high x : ℕ) → low ≤ x → x ≤ high → outside low high x ≡ false
unfolding outside
not_outside low high x l h = either_none (ltb x low) (ltb high x) (le-ltb x low l) (le-ltb high x h)

-- number 8's order: by the first, then the second
not_above_is : (a b c d : ℕ) → (not_above a b c d ≡ true) ↔ (((a < c) ⊎ ((a ≡ c) × (b < d))) → ⊥)
unfolding not_above
not_above_is a b c d = (
  λ e up.
      ⊎_elim (λ u. ⊎_elim (λ v. omega (arith, ltb-true c a u)) (λ v. omega (arith, ltb-true c a u, v.0)) up)
      (λ u.
      let t = both_true (eqb c a) (leb d b) u in
      ⊎_elim (λ v. omega (arith, eqb-true c a t.0)) (λ v. omega (arith, leb-true d b t.1, v.1)) up) (either_true (ltb c a) (both (eqb c a) (leb d b)) e),
  λ g.
      let low : a < c → ⊥ = λ h. g (inl h) in
      elim (ℕ_discrete c a) [
        | yes e ↦
            let high : b < d → ⊥ = λ h. g (inr (sym e, h)) in
            either_right (ltb c a) _ (both_intro (eqb c a) (leb d b) (eq-eqb c a e) (le-leb d b (omega arith)))
        | no e ↦ either_left (ltb c a) _ (lt-ltb c a (omega arith))
      ],
)

abbrev pub counts_test : Plan → Bool
counts_test pl = bad_counts pl.nodes pl.processes pl.edges pl.counters pl.modulus

module _ (pl : Plan) where
  pub counts_fit : counts_test pl ≡ false → CountsFit pl
  unfolding bad_counts
  counts_fit e =
      let a = either_false (outside 1 64 pl.nodes) _ e in
      let b = either_false (outside 1 64 pl.processes) _ a.1 in
      let c = either_false (outside 1 512 pl.edges) _ b.1 in
      let d = either_false (outside 1 64 pl.counters) _ c.1 in
      let n = inside 1 64 pl.nodes a.0 in
      let p = inside 1 64 pl.processes b.0 in
      let g = inside 1 512 pl.edges c.0 in
      let k = inside 1 64 pl.counters d.0 in
      let m = inside 1 2000000000 pl.modulus d.1 in
      record {
        nodes_some = n.0;
        nodes_most = n.1;
        processes_some = p.0;
        processes_most = p.1;
        edges_some = g.0;
        edges_most = g.1;
        counters_some = k.0;
        counters_most = k.1;
        modulus_some = m.0;
        modulus_most = m.1;
      }

  pub counts_pass : CountsFit pl → counts_test pl ≡ false
  unfolding bad_counts
  counts_pass f =
      either_none _ _ (not_outside 1 64 pl.nodes f.nodes_some f.nodes_most)
      (either_none _ _ (not_outside 1 64 pl.processes f.processes_some f.processes_most)
      (either_none _ _ (not_outside 1 512 pl.edges f.edges_some f.edges_most)
      (either_none _ _ (not_outside 1 64 pl.counters f.counters_some f.counters_most)
      (not_outside 1 2000000000 pl.modulus f.modulus_some f.modulus_most))))

  pub test_3 : (place : ℕ) → ((place ≡ 0) × (counts_test pl ≡ true)) ↔ Fault3 pl place
  unfolding Fault3
  test_3 place = (
    λ t. (t.0, λ f. true_false (sym t.1 ∙ counts_pass f)),
    λ t. (t.0, not-false (counts_test pl) (λ e. t.1 (counts_fit e))),
  )

  pub passes_3 : (counts_test pl ≡ false) ↔ Passes (Fault3 pl)
  passes_3 = (
    λ e place t. true_false (sym ((test_3 place).1 t).1 ∙ e),
    λ p. not_true (counts_test pl) (λ e. p 0 ((test_3 0).0 (refl, e))),
  )

  -- number 5: a process length 0; else lengths not adding up to nodes
  pub test_5 : (place : ℕ)
      → (((place < pl.processes) × (zero_length pl.lengths place ≡ true))
      ⊎ ((place ≡ pl.processes) × (eqb (base pl.lengths pl.processes) pl.nodes ≡ false)))
      ↔ Fault5 pl place
  unfolding Fault5 zero_length
  test_5 place = (
    ⊎_elim (λ t. inl (t.0, eqb-true _ _ t.1)) (λ t. inr (t.0, eqb-false _ _ t.1)),
    ⊎_elim (λ t. inl (t.0, eq-eqb _ _ t.1)) (λ t. inr (t.0, ne_eqb _ _ t.1)),
  )

  -- the lowest process with length 0 is a fault, and where there is none the number of processes is one if the lengths do not add up
  pub found_5 : first (zero_length pl.lengths) pl.processes < pl.processes → Fault5 pl (first (zero_length pl.lengths) pl.processes)
  found_5 h = (test_5 (first (zero_length pl.lengths) pl.processes)).0 (inl (h, first_here (zero_length pl.lengths) pl.processes h))

  pub found_5_sum : base pl.lengths pl.processes ≢ pl.nodes → Fault5 pl pl.processes
  unfolding Fault5
  found_5_sum d = inr (refl, d)

  -- no lower place is one
  pub none_lower_5 : (place : ℕ) → place < first (zero_length pl.lengths) pl.processes → Fault5 pl place → ⊥
  none_lower_5 place h t =
      ⊎_elim (λ s. true_false (sym s.1 ∙ first_below (zero_length pl.lengths) pl.processes place h))
      (λ s. omega (arith, s.0, first_le (zero_length pl.lengths) pl.processes)) ((test_5 place).1 t)

  pub passes_5 : ((pl.processes ≤ first (zero_length pl.lengths) pl.processes) × (base pl.lengths pl.processes ≡ pl.nodes)) ↔ Passes (Fault5 pl)
  passes_5 = (
    λ t place u.
        ⊎_elim (λ s. none_lower_5 place (omega (arith, s.0, t.0)) u) (λ s. eqb-false _ _ s.1 t.1) ((test_5 place).1 u),
    λ p. (
      (let none : first (zero_length pl.lengths) pl.processes < pl.processes → ⊥ = λ h. p _ (found_5 h) in omega arith),
      elim (ℕ_discrete (base pl.lengths pl.processes) pl.nodes) [ yes e ↦ e | no d ↦ absurd (p pl.processes (found_5_sum d)) ],
    ),
  )

  -- number 6: an order entry not a node, or a node seen before
  pub test_6 : IsFault (bad_order pl.order pl.nodes) pl.nodes (Fault6 pl)
  unfolding Fault6 bad_order same_entry
  test_6 place = (
    λ t. (
      t.0,
      ⊎_elim (λ u. inl (leb-true _ _ u)) (λ u. let s = any_some _ place u in inr (s.0, s.1, eqb-true _ _ s.2))
          (either_true (leb pl.nodes (at pl.order place)) (any (same_entry pl.order place) place) t.1),
    ),
    λ t. (
      t.0,
      ⊎_elim (λ u. either_left _ _ (le-leb _ _ u)) (λ u. either_right _ _ (any_from _ place u.0 u.1 (eq-eqb _ _ u.2))) t.1,
    ),
  )

  -- number 7: counter unknown, increment too large
  pub test_7 : IsFault (bad_node pl.counter pl.increment pl.counters) pl.nodes (Fault7 pl)
  unfolding Fault7 bad_node
  test_7 place = (
    λ t. (
      t.0,
      ⊎_elim (λ u. inl (leb-true _ _ u)) (λ u. inr (ltb-true _ _ u))
          (either_true (leb pl.counters (at pl.counter place)) (ltb 255 (at pl.increment place)) t.1),
    ),
    λ t. (t.0, ⊎_elim (λ u. either_left _ _ (le-leb _ _ u)) (λ u. either_right _ _ (lt-ltb _ _ u)) t.1),
  )

  -- number 8: an end unknown, too many tokens, edge not above the one before it
  not_rising_is : (place : ℕ) → (not_rising pl.source pl.destination place ≡ true) ↔ ((before : ℕ) × (suc before ≡ place) × (Above pl before place → ⊥))
  unfolding not_rising Above
  not_rising_is place = (
    λ e. let t = both_true _ _ e in (place - 1, omega (arith, ltb-true 0 place t.0), (not_above_is _ _ _ _).0 t.1),
    λ t.
        let e : place - 1 ≡ t.0 = omega (arith, t.1) in
        both_intro _ _ (lt-ltb 0 place (omega (arith, t.1))) (rw e ((not_above_is _ _ _ _).1 t.2)),
  )

  pub test_8 : IsFault (bad_edge pl.source pl.destination pl.tokens pl.nodes) pl.edges (Fault8 pl)
  unfolding Fault8 bad_edge
  test_8 place = (
    λ t. (
      t.0,
      ⊎_elim (λ u. inl (leb-true _ _ u))
          (λ t. inr (⊎_elim (λ u. inl (leb-true _ _ u))
          (λ t. inr (⊎_elim (λ u. inl (ltb-true _ _ u)) (λ u. inr ((not_rising_is place).0 u))
          (either_true (ltb 1000 (at pl.tokens place)) (not_rising pl.source pl.destination place) t)))
          (either_true (leb pl.nodes (at pl.destination place)) _ t)))
          (either_true (leb pl.nodes (at pl.source place)) _ t.1),
    ),
    λ t. (
      t.0,
      ⊎_elim (λ u. either_left _ _ (le-leb _ _ u))
          (λ t. either_right _ _ (⊎_elim (λ u. either_left _ _ (le-leb _ _ u))
          (λ t. either_right _ _ (⊎_elim (λ u. either_left _ _ (lt-ltb _ _ u)) (λ u. either_right _ _ ((not_rising_is place).1 u)) t)) t)) t.1,
    ),
  )
