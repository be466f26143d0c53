-- What a call changes: nothing where it is refused, and otherwise what `Changes` says, in every field and at every index.
-- Assumes nothing.
use Rattle.std.specs.Prelude.{◌≡◌, ℕ, ◌<◌, ◌⊎◌, ◌==◌, nat_lt}
use Rattle.std.proofs.Math.Path.{refl}
use Rattle.std.proofs.Math.Logic.{inl, inr}
use Rattle.std.proofs.Common.{arith}
use Rattle.loops.specs.Choice.{at}
use Rattle.plan.specs.declared.Plan.{Plan}
use Rattle.plan.specs.Value.{node_at}
use Rattle.plan.specs.Faults.{InShape}
use Rattle.plan.specs.Tables.{Tabled}
use Rattle.plan.specs.Formed.{formed}
use Rattle.plan.specs.Seating.{node_at_lt}
use Rattle.state.specs.declared.State.{State}
use Rattle.machine.specs.Answers.{Opened, Found, Wait, Fired, Refused}
use Rattle.machine.specs.Answers.{Turned}
use Rattle.machine.specs.States.{next_node, Sized, StateInShape}
use Rattle.machine.specs.Calls.{edge_found, do_open, do_look, do_fire, refused, both_fit, step_in_shape, step_call}
use Rattle.machine.specs.Runs.{Call, turn}
use Rattle.machine.specs.ByTest.{if_either}
use Rattle.machine.specs.CallCases.{open_cases, look_cases, fire_cases}
use Rattle.machine.specs.Changes.{Opens, Finds, Waits, Fires, opens, finds_changes, waits_changes, fires}

-- a refused call: "The state comes back unchanged."
unfoldable pub Unchanged : State → Turned → Type 0
Unchanged st t = (number : ℕ) × (t.reply ≡ Refused number) × (t.state ≡ st)

-- what the answer says has changed
unfoldable pub Changed : Plan → State → Call → Turned → Type 0
Changed pl st c t =
    ((edges : ℕ) × (t.reply ≡ Opened edges) × Opens pl st c.process t.state)
    ⊎ (((left : ℕ) × (t.reply ≡ Found left) × Finds st c.process c.edge t.state)
    ⊎ (((left : ℕ) × (t.reply ≡ Wait left) × Waits st t.state)
    ⊎ ((v : ℕ) × (t.reply ≡ Fired v) × (v ≡ next_node pl st c.process) × Fires pl st c.process v t.state)))

module _ (pl : Plan) (shape : InShape pl) (st : State) (ok : StateInShape pl st) (sized : Sized st) (c : Call) where
  -- one or the other
  Either : Turned → Type 0
  Either t = Unchanged st t ⊎ Changed pl st c t

  tables : Tabled pl
  tables = (formed pl shape).tables

  refuses : (number : ℕ) → Either (refused number st)
  unfolding Either Unchanged refused
  refuses number = inl (number, refl, refl)

  opens_it : c.process < pl.processes → Either (do_open pl st c.process)
  unfolding Either Changed do_open
  opens_it h = inr (inl (_, refl, opens pl st sized c.process (omega (arith, tables.counts.processes_most)) tables.counts.edges_most))

  looks_at_it : c.process < pl.processes → c.edge < pl.edges → Either (do_look pl st c.process c.edge)
  unfolding Either Changed do_look
  looks_at_it h l =
      let k : c.process < 64 = omega (arith, tables.counts.processes_most) in
      let few : c.edge < 512 = omega (arith, tables.counts.edges_most) in
      if_either Either (edge_found pl st c.edge) _ _ (λ t. inr (inr (inl (_, refl, finds_changes pl st sized c.process k c.edge few))))
      (λ t. inr (inr (inr (inl (_, refl, waits_changes pl st sized c.process k)))))

  fires_it : c.process < pl.processes → Either (do_fire pl st c.process)
  unfolding Either Changed do_fire next_node node_at
  fires_it h =
      let v = next_node pl st c.process in
      let known : v < pl.nodes = node_at_lt pl tables c.process (at st.positions c.process) h (ok.position_lt c.process h) in
      let counted : at pl.counter v < 64 = omega (arith, tables.counter_lt v known, tables.counts.counters_most) in
      inr (inr (inr (inr (v, refl, refl, fires pl st sized c.process (omega (arith, tables.counts.processes_most)) v counted))))

  -- by its code
  in_shape : Either (step_in_shape pl st c.code c.process c.edge)
  unfolding step_in_shape
  in_shape =
      if_either Either (c.code == 0) _ _ (λ y. open_cases pl st Either (λ number d. refuses number) c.process (λ h o. opens_it h))
      (λ y. if_either Either (c.code == 1) _ _
      (λ x. look_cases pl st Either (λ number d. refuses number) c.process c.edge (λ h o l m. looks_at_it h l))
      (λ x. if_either Either (c.code == 2) _ _ (λ w. fire_cases pl st Either (λ number d. refuses number) c.process (λ h o z. fires_it h)) (λ w. refuses 26)))

  pub changes : Unchanged st (turn pl st c) ⊎ Changed pl st c (turn pl st c)
  unfolding turn step_call Either
  changes =
      if_either Either (nat_lt 2 c.code) _ _ (λ y. refuses 26)
      (λ y. if_either Either (both_fit pl st) _ _ (λ x. in_shape) (λ x. refuses 25))
