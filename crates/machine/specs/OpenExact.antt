-- What an open answers and marks: the synchronising in-edges of the process's next node, and how many they are.
-- Assumes nothing.
use Rattle.std.specs.Prelude.{◌≡◌, ℕ, ◌+◌, ◌-◌, ◌<◌, ◌≤◌, ◌↔◌, refl}
use Rattle.std.proofs.Common.{sym, ◌∙◌, subst}
use Rattle.std.proofs.Math.Path.{ap}
use native.Mathlib.Omega.{arith}
use Rattle.std.proofs.Math.Decide.{ℕ_discrete}
use Rattle.std.proofs.Math.Seq.{get_or-set_same}
use Rattle.loops.specs.Choice.{at, one_if}
use Rattle.loops.specs.Sum.{sum, sum_same, sum_none, sum_split}
use Rattle.plan.specs.declared.Plan.{Plan}
use Rattle.plan.specs.Value.{Synchronising}
use Rattle.plan.specs.Faults.{InShape}
use Rattle.plan.specs.Tables.{Tabled}
use Rattle.plan.specs.Formed.{formed}
use Rattle.state.specs.declared.State.{State}
use Rattle.machine.specs.Answers.{Opened}
use Rattle.machine.specs.Answers.{Turned}
use Rattle.machine.specs.States.{mark, next_node}
use Rattle.machine.specs.Calls.{to_see, marks_left, opened_state, do_open, open_in_shape}
use Rattle.machine.specs.Runs.{Call, turn}
use Rattle.machine.specs.ByTest.{one_if_true}
use Rattle.machine.specs.Replies.{turned}
use Rattle.machine.specs.CallCases.{open_turn, open_accepted}
use Rattle.machine.specs.Marks.{open_mark}
use Rattle.machine.specs.ShapeTest.{to_see_exactly}
use Rattle.machine.specs.KeptByCalls.{Kept, open_kept}
use Rattle.machine.specs.ShapeKept.{kept_fits}

-- an open's result: the process is open, exactly the synchronising in-edges of its next node are marked, and the answer is how many they are
pub record OpenExact (pl : Plan) (st : State) (p : ℕ) (t : Turned) : Type 0 where
  pub answers : t.reply ≡ Opened (marks_left t.state p)
  pub is_open : at t.state.opened p ≡ 1
  pub marks : (e : ℕ) → e < 512 → (mark t.state p e ≡ 1) ↔ ((at pl.destination e ≡ next_node pl st p) × Synchronising pl e)

module _ (pl : Plan) (shape : InShape pl) (st : State) (kept : Kept pl st) (p : ℕ) (h : p < pl.processes) where
  tables : Tabled pl
  tables = (formed pl shape).tables

  -- the marks past the edges
  none_past : (e : ℕ) → e < 512 → pl.edges ≤ e → mark (opened_state pl st p) p e ≡ 0
  none_past e k past =
      elim (ℕ_discrete (mark (opened_state pl st p) p e) 0) [
        | yes z ↦ z
        | no z ↦ absurd (omega (arith, (((open_kept pl shape st kept p h).parts.marks p (omega (arith, tables.counts)) e k).means z).synchronising.known))
      ]

  -- an opened process has as many marks left as the answer says
  pub open_left : marks_left (opened_state pl st p) p ≡ sum (λ e. one_if (to_see pl (next_node pl st p) e)) pl.edges
  unfolding marks_left
  open_left =
      let marks = mark (opened_state pl st p) p in
      let few = tables.counts in
      let rest : ℕ = 512 - pl.edges in
      ap (sum marks) (let e : 512 ≡ pl.edges + rest = omega arith in e) ∙ sum_split marks pl.edges rest
      ∙ omega (
        arith,
        sum_same marks (λ e. one_if (to_see pl (next_node pl st p) e)) pl.edges (λ e k. open_mark pl st kept.sized p few.edges_most e (omega arith) k),
        sum_none (λ j. marks (pl.edges + j)) rest (λ j k. none_past (pl.edges + j) (omega arith) (omega arith)),
      )

  -- a closed process is opened
  pub opens : at st.opened p ≡ 0 → (c : Call) → c.code ≡ 0 → c.process ≡ p
      → turn pl st c ≡ turned (Opened (marks_left (opened_state pl st p) p)) (opened_state pl st p)
  unfolding do_open
  opens z c code process =
      open_turn pl st (kept_fits pl shape st kept) c code ∙ ap (open_in_shape pl st) process ∙ open_accepted pl st p h z
      ∙ ap (λ n. turned (Opened n) (opened_state pl st p)) (sym open_left)

  -- its flag is 1
  pub is_open : at (opened_state pl st p).opened p ≡ 1
  unfolding opened_state
  is_open = get_or-set_same st.opened p 1 0 (omega (arith, kept.sized.opened_length, tables.counts))

  -- the marks are those
  open_marks : (e : ℕ) → e < 512 → (mark (opened_state pl st p) p e ≡ 1) ↔ ((at pl.destination e ≡ next_node pl st p) × Synchronising pl e)
  unfolding next_node opened_state
  open_marks e k = (
    λ m.
        let means = ((open_kept pl shape st kept p h).parts.marks p (omega (arith, tables.counts)) e k).means (λ z. omega arith) in
        (means.next, means.synchronising),
    λ r.
        open_mark pl st kept.sized p tables.counts.edges_most e (omega (arith, tables.counts)) r.1.known
        ∙ one_if_true (to_see pl (next_node pl st p) e) ((to_see_exactly pl shape (next_node pl st p) e r.1.known).1 r),
  )

  -- so the open is exact
  pub open_is_exact : at st.opened p ≡ 0 → (c : Call) → c.code ≡ 0 → c.process ≡ p → OpenExact pl st p (turn pl st c)
  open_is_exact z c code process = subst (OpenExact pl st p) (sym (opens z c code process)) (record { answers = refl; is_open = is_open; marks = open_marks })
