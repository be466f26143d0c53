-- The run's state and its shape (01, "Running a plan"). Definitions only.
-- Assumes nothing.
use Rattle.std.specs.Prelude.{◌≡◌, ℕ, ◌<◌, ◌≤◌, ◌≢◌, List, length}
use Rattle.loops.specs.Choice.{at}
use Rattle.plan.specs.declared.Plan.{Plan}
use Rattle.plan.specs.Value.{Synchronising}
use Rattle.rows.specs.Lists.{spot, next_in}
use Rattle.state.specs.declared.State.{State}
unfoldable pub use Rattle.state.specs.Fresh.{fresh}

-- the state of a run's lists and a turn number
abbrev pub state_with : (positions opened marks counters : List ℕ) (turn : ℕ) → State
state_with positions opened marks counters turn = record { positions = positions; opened = opened; marks = marks; counters = counters; turn = turn }

-- process p's mark of edge e
abbrev pub mark : State → ℕ → ℕ → ℕ
mark st p e = at st.marks (spot p e)

-- the next node of process p
unfoldable pub next_node : Plan → State → ℕ → ℕ
next_node pl st p = next_in pl.order pl.lengths st.positions p

-- a state as the program holds it: the lengths of its lists
pub record Sized (st : State) : Type 0 where
  pub positions_length : length st.positions ≡ 64
  pub opened_length : length st.opened ≡ 64
  pub marks_length : length st.marks ≡ 32768
  pub counters_length : length st.counters ≡ 64

-- "A state is in shape when positions and counters are in range, entries past the counts are 0, and a process's row has marks only
-- while it is open, and only on synchronising in-edges of its own next node." Open flags and marks are 0 or 1.
pub record StateInShape (pl : Plan) (st : State) : Type 0 where
  pub position_lt : (p : ℕ) → p < pl.processes → at st.positions p < at pl.lengths p
  pub position_past : (p : ℕ) → p < 64 → pl.processes ≤ p → at st.positions p ≡ 0
  pub opened_flag : (p : ℕ) → p < pl.processes → at st.opened p ≤ 1
  pub opened_past : (p : ℕ) → p < 64 → pl.processes ≤ p → at st.opened p ≡ 0
  pub counter_lt : (c : ℕ) → c < pl.counters → at st.counters c < pl.modulus
  pub counter_past : (c : ℕ) → c < 64 → pl.counters ≤ c → at st.counters c ≡ 0
  pub mark_flag : (p e : ℕ) → p < 64 → e < 512 → mark st p e ≤ 1
  pub mark_process : (p e : ℕ) → p < 64 → e < 512 → mark st p e ≢ 0 → p < pl.processes
  pub mark_open : (p e : ℕ) → p < 64 → e < 512 → mark st p e ≢ 0 → at st.opened p ≡ 1
  pub mark_synchronising : (p e : ℕ) → p < 64 → e < 512 → mark st p e ≢ 0 → Synchronising pl e
  pub mark_next : (p e : ℕ) → p < 64 → e < 512 → mark st p e ≢ 0 → at pl.destination e ≡ next_node pl st p
