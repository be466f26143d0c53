-- The machine's test of a state's shape: it is true exactly where the state is in shape.
-- Assumes nothing.
use Rattle.std.specs.Prelude.{◌≡◌, ℕ, ◌<◌, ◌≤◌, Bool, true, false, ◌≢◌, ◌↔◌, List, ◌==◌, nat_le, nat_lt}
use Rattle.std.proofs.Common.{sym, ◌∙◌}
use Rattle.std.proofs.Math.Logic.Iff
use native.Mathlib.Omega.{arith}
use Rattle.std.proofs.Math.Decide.{ℕ_discrete, dec_lt}
use borrow.Author.Tests.{ltb-true, ltb-false, leb-false, eqb-true, lt-ltb, le-ltb, lt-leb, eq-eqb}
use Rattle.loops.specs.Choice.{at, both, one_if, not_true, if_true, if_false, if_le, both_true, both_intro}
use Rattle.loops.specs.Sum.{sum, sum_at, sum_none}
use Rattle.plan.specs.declared.Plan.{Plan}
use Rattle.plan.specs.Value.{Synchronising}
use Rattle.plan.specs.Faults.{InShape}
use Rattle.plan.specs.Tests.{synchronises, plan_fits}
use Rattle.plan.specs.Formed.{formed, past, fits_exactly}
use Rattle.plan.specs.Seating.{synchronises_exactly}
use Rattle.rows.specs.Lists.{row_above}
use Rattle.state.specs.declared.State.{State}
use Rattle.machine.specs.States.{mark, next_node, StateInShape}
use Rattle.machine.specs.Calls.{to_see, mark_allowed, row_excess, position_bad, opened_bad, counter_bad, state_fits, both_fit}
use Rattle.ranges.specs.Range.{out_of_range}
use Rattle.machine.specs.ByTest.{one_if_true, one_if_false, one_if_some, if_some, sum_zero}
use Rattle.machine.specs.ShapeParts.{InRange, MarkMeans, MarkFits, Parts, parts_exactly}

-- a test that is nowhere true
pub nowhere : (t : ℕ → Bool) (n : ℕ) → (nat_lt 0 (sum (λ k. one_if (t k)) n) ≡ false) ↔ ((k : ℕ) → k < n → t k ≡ false)
nowhere t n = (
  λ e k h. not_true (t k) (λ y. let z = ltb-false 0 (sum (λ k. one_if (t k)) n) e in omega (arith, one_if_true (t k) y, sum_at (λ k. one_if (t k)) n k h)),
  λ f. le-ltb 0 (sum (λ k. one_if (t k)) n) (omega (arith, sum_none (λ k. one_if (t k)) n (λ k h. one_if_false (t k) (f k h)))),
)

-- an entry is not out of range exactly where it is in range
pub in_range : (limit : ℕ → ℕ) (count : ℕ) (entries : List ℕ) (k : ℕ) → (out_of_range limit count entries k ≡ false) ↔ InRange limit count entries k
unfolding out_of_range
in_range limit count entries k =
    elim (dec_lt k count) [
      | yes p ↦
          let way = if_true (nat_lt k count) (nat_le (limit k) (at entries k)) (nat_lt 0 (at entries k)) (lt-ltb k count p) in (
            λ e. record { known = λ h. leb-false (limit k) (at entries k) (sym way ∙ e); past = λ h. absurd (omega arith) },
            λ r. way ∙ lt-leb (limit k) (at entries k) (r.known p),
          )
      | no p ↦
          let way = if_false (nat_lt k count) (nat_le (limit k) (at entries k)) (nat_lt 0 (at entries k)) (le-ltb k count (omega arith)) in (
            λ e. record { known = λ h. absurd (p h); past = λ h. let z = ltb-false 0 (at entries k) (sym way ∙ e) in omega arith },
            λ r. way ∙ le-ltb 0 (at entries k) (let z = r.past (omega arith) in omega arith),
          )
    ]

module _ (pl : Plan) (shape : InShape pl) where
  -- an edge to see is a synchronising in-edge of the node
  pub to_see_exactly : (n e : ℕ) → e < pl.edges → (to_see pl n e ≡ true) ↔ ((at pl.destination e ≡ n) × Synchronising pl e)
  unfolding to_see
  to_see_exactly n e h =
      let exactly = synchronises_exactly pl (formed pl shape).tables e h in (
        λ t. let r = both_true (at pl.destination e == n) (synchronises pl e) t in (eqb-true (at pl.destination e) n r.0, exactly.0 r.1),
        λ r. both_intro (at pl.destination e == n) (synchronises pl e) (eq-eqb (at pl.destination e) n r.0) (exactly.1 r.1),
      )

  module _ (st : State) where
    -- a mark may be 1 where it says that, and otherwise not
    allowed_le : (p e : ℕ) → mark_allowed pl st p e ≤ 1
    unfolding mark_allowed one_if
    allowed_le p e = if_le _ (if_le _ (if_le _ (omega arith) (omega arith)) (omega arith)) (omega arith)

    allowed_means : (p e : ℕ) → mark_allowed pl st p e ≢ 0 → MarkMeans pl st p e
    unfolding mark_allowed
    allowed_means p e d =
        let a = if_some (both (nat_lt p pl.processes) (nat_lt 0 (at st.opened p))) _ d in
        let o = both_true (nat_lt p pl.processes) (nat_lt 0 (at st.opened p)) a.0 in
        let b = if_some (nat_lt e pl.edges) _ a.1 in
        let s = (to_see_exactly (next_node pl st p) e (ltb-true e pl.edges b.0)).0 (one_if_some (to_see pl (next_node pl st p) e) b.1) in
        record { process_lt = ltb-true p pl.processes o.0; is_open = ltb-true 0 (at st.opened p) o.1; next = s.0; synchronising = s.1 }

    means_allowed : (p e : ℕ) → MarkMeans pl st p e → mark_allowed pl st p e ≡ 1
    unfolding mark_allowed
    means_allowed p e m =
        if_true (both (nat_lt p pl.processes) (nat_lt 0 (at st.opened p))) _ 0
        (both_intro (nat_lt p pl.processes) (nat_lt 0 (at st.opened p)) (lt-ltb p pl.processes m.process_lt) (lt-ltb 0 (at st.opened p) m.is_open))
        ∙ if_true (nat_lt e pl.edges) _ 0 (lt-ltb e pl.edges m.synchronising.known)
        ∙ one_if_true (to_see pl (next_node pl st p) e) ((to_see_exactly (next_node pl st p) e m.synchronising.known).1 (m.next, m.synchronising))

    -- no mark of a process's row is above what it may be exactly where each is in order
    row_fits : (p : ℕ) → (row_excess pl st p ≡ 0) ↔ ((e : ℕ) → e < 512 → MarkFits pl st p e)
    unfolding row_excess row_above
    row_fits p = (
      λ z e h.
          let l : mark st p e ≤ mark_allowed pl st p e =
          ltb-false (mark_allowed pl st p e) (mark st p e) (not_true _ (λ y. omega (arith, (sum_zero _ 512).0 z e h, one_if_true _ y))) in
          record { flag = omega (arith, allowed_le p e); means = λ d. allowed_means p e (λ y. d (omega arith)) },
      λ f. (sum_zero _ 512).1 (λ e h. one_if_false _ (le-ltb (mark_allowed pl st p e) (mark st p e) (fits e (f e h)))),
    )
      where
        fits : (e : ℕ) → MarkFits pl st p e → mark st p e ≤ mark_allowed pl st p e
        fits e r =
            elim (ℕ_discrete (mark st p e) 0) [
              | yes z ↦ omega arith
              | no z ↦ omega (arith, r.flag, means_allowed p e (r.means z))
            ]

    -- the four tests are the four parts
    tests_exactly : (state_fits pl st ≡ true) ↔ Parts pl st
    unfolding state_fits position_bad opened_bad counter_bad
    tests_exactly = (
      λ t.
          let first = past (nat_lt 0 (sum (λ p. one_if (position_bad pl st p)) 64)) _ t in
          let second = past (nat_lt 0 (sum (λ p. one_if (opened_bad pl st p)) 64)) _ first.1 in
          let third = past (nat_lt 0 (sum (λ c. one_if (counter_bad pl st c)) 64)) _ second.1 in
          record {
            positions = λ p h. (in_range _ _ _ p).0 ((nowhere (position_bad pl st) 64).0 first.0 p h);
            opened = λ p h. (in_range _ _ _ p).0 ((nowhere (opened_bad pl st) 64).0 second.0 p h);
            counters = λ c h. (in_range _ _ _ c).0 ((nowhere (counter_bad pl st) 64).0 third.0 c h);
            marks = λ p h. (row_fits p).0 ((sum_zero (row_excess pl st) 64).0 (eqb-true _ _ third.1) p h);
          },
      λ r.
          if_false _ false _ ((nowhere (position_bad pl st) 64).1 (λ p h. (in_range _ _ _ p).1 (r.positions p h)))
          ∙ if_false _ false _ ((nowhere (opened_bad pl st) 64).1 (λ p h. (in_range _ _ _ p).1 (r.opened p h)))
          ∙ if_false _ false _ ((nowhere (counter_bad pl st) 64).1 (λ c h. (in_range _ _ _ c).1 (r.counters c h)))
          ∙ eq-eqb _ _ ((sum_zero (row_excess pl st) 64).1 (λ p h. (row_fits p).1 (r.marks p h))),
    )

    -- the test is true exactly where the state is in shape
    pub state_fits_exactly : (state_fits pl st ≡ true) ↔ StateInShape pl st
    state_fits_exactly = Iff.trans tests_exactly (parts_exactly pl (formed pl shape).tables.counts st)

-- the test of plan and state is true exactly where both are in shape
pub both_fit_exactly : (pl : Plan) (st : State) → (both_fit pl st ≡ true) ↔ (InShape pl × StateInShape pl st)
unfolding both_fit both
both_fit_exactly pl st = (
  λ t.
      let r = both_true (plan_fits pl) (state_fits pl st) t in
      let shape = (fits_exactly pl).0 r.0 in
      (shape, (state_fits_exactly pl shape st).0 r.1),
  λ r. both_intro (plan_fits pl) (state_fits pl st) ((fits_exactly pl).1 r.0) ((state_fits_exactly pl r.0 st).1 r.1),
)
