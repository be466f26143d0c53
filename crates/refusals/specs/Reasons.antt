-- Why a call is turned down, and what a call asks, by 01's numbers. Definitions only.
-- Assumes nothing.
use Rattle.std.specs.Prelude.{ℕ, ◌≡◌, Result, Ok, Err, List}
use Rattle.refusals.specs.declared.Reason.{Reason}
use Rattle.refusals.specs.declared.Reason.TheVariants.{UnknownProcess, AlreadyOpen, Closed, NotMarked, MarksLeft, OutOfShape, UnknownCode, NotSynchronising}
use Rattle.refusals.specs.declared.Call.{Call}
use Rattle.refusals.specs.declared.Call.TheVariants.{Open, Look, Fire}
use Rattle.refusals.specs.declared.Request.{Request}
use Rattle.refusals.specs.Numbers.{call_number}

-- the number that 01 gives a reason
abbrev pub number_of : Reason → ℕ
number_of UnknownProcess = 20
number_of AlreadyOpen = 21
number_of Closed = 22
number_of NotMarked = 23
number_of MarksLeft = 24
number_of OutOfShape = 25
number_of UnknownCode = 26
number_of NotSynchronising = 27

-- the number that a call is turned down with, or 0
abbrev pub number_in : {A : Type 0} → Result A Reason → ℕ
number_in (Ok a) = 0
number_in (Err reason) = number_of reason

-- the call is what the request asks: "code (0 open, 1 look, 2 fire)"
abbrev pub Asks : Request → Call → Type 0
Asks r (Open process) = (r.code ≡ 0) × (r.process ≡ process)
Asks r (Look process edge) = (r.code ≡ 1) × (r.process ≡ process) × (r.edge ≡ edge)
Asks r (Fire process) = (r.code ≡ 2) × (r.process ≡ process)

-- turned down with the number that a call has, or the call that is asked
abbrev pub Allows : ℕ → ℕ → List ℕ → List ℕ → Request → Result Call Reason → Type 0
Allows processes edges opened marks r (Ok call) = (call_number processes edges opened marks r.code r.process r.edge ≡ 0) × Asks r call
Allows processes edges opened marks r (Err reason) = number_of reason ≡ call_number processes edges opened marks r.code r.process r.edge
