-- The shape of a state in four parts: positions, open flags and counters in range, and each process's row of marks in order.
-- Assumes nothing.
use Rattle.std.specs.Prelude.{◌≡◌, ℕ, ◌<◌, ◌≤◌, ◌≢◌, ◌↔◌, List}
use Rattle.std.proofs.Common.{arith}
use Rattle.loops.specs.Choice.{at}
use Rattle.plan.specs.declared.Plan.{Plan}
use Rattle.plan.specs.Value.{Synchronising}
use Rattle.plan.specs.Faults.{CountsFit}
use Rattle.state.specs.declared.State.{State}
use Rattle.machine.specs.States.{mark, next_node, StateInShape}

-- an entry in range: below its limit where it is known, 0 past the count
pub record InRange (limit : ℕ → ℕ) (count : ℕ) (entries : List ℕ) (k : ℕ) : Type 0 where
  pub known : k < count → at entries k < limit k
  pub past : count ≤ k → at entries k ≡ 0

-- what a mark says
pub record MarkMeans (pl : Plan) (st : State) (p e : ℕ) : Type 0 where
  pub process_lt : p < pl.processes
  pub is_open : 0 < at st.opened p
  pub next : at pl.destination e ≡ next_node pl st p
  pub synchronising : Synchronising pl e

-- a mark in order: 0, or 1 and what it says holds
pub record MarkFits (pl : Plan) (st : State) (p e : ℕ) : Type 0 where
  pub flag : mark st p e ≤ 1
  pub means : mark st p e ≢ 0 → MarkMeans pl st p e

-- the four parts
pub record Parts (pl : Plan) (st : State) : Type 0 where
  pub positions : (p : ℕ) → p < 64 → InRange (at pl.lengths) pl.processes st.positions p
  pub opened : (p : ℕ) → p < 64 → InRange (λ p. 2) pl.processes st.opened p
  pub counters : (c : ℕ) → c < 64 → InRange (λ c. pl.modulus) pl.counters st.counters c
  pub marks : (p : ℕ) → p < 64 → (e : ℕ) → e < 512 → MarkFits pl st p e

-- the four parts are the shape
pub parts_exactly : (pl : Plan) → CountsFit pl → (st : State) → Parts pl st ↔ StateInShape pl st
parts_exactly pl counts st = (
  λ r. record {
    position_lt = λ p h. (r.positions p (omega arith)).known h;
    position_past = λ p l h. (r.positions p l).past h;
    opened_flag = λ p h. let t = (r.opened p (omega arith)).known h in omega arith;
    opened_past = λ p l h. (r.opened p l).past h;
    counter_lt = λ c h. (r.counters c (omega arith)).known h;
    counter_past = λ c l h. (r.counters c l).past h;
    mark_flag = λ p e l h. (r.marks p l e h).flag;
    mark_process = λ p e l h d. ((r.marks p l e h).means d).process_lt;
    mark_open = λ p e l h d. let m = (r.marks p l e h).means d in let t = (r.opened p l).known m.process_lt in omega (arith, m.is_open);
    mark_synchronising = λ p e l h d. ((r.marks p l e h).means d).synchronising;
    mark_next = λ p e l h d. ((r.marks p l e h).means d).next;
  },
  λ s. record {
    positions = λ p l. record { known = s.position_lt p; past = s.position_past p l };
    opened = λ p l. record { known = λ h. let t = s.opened_flag p h in omega arith; past = s.opened_past p l };
    counters = λ c l. record { known = s.counter_lt c; past = s.counter_past c l };
    marks = λ p l e h.
        record {
          flag = s.mark_flag p e l h;
          means = λ d.
              record {
                process_lt = s.mark_process p e l h d;
                is_open = omega (arith, s.mark_open p e l h d);
                next = s.mark_next p e l h d;
                synchronising = s.mark_synchronising p e l h d;
              };
        };
  },
)
