-- What the calls that are still to come make of the stream, all calls make of it.
use Rattle.streams.specs.Held.{Tried}
use Rattle.streams.proofs.tried.Given as goal

abbrev pub invariant-loop : goal.invariant-loop
invariant-loop g l =
    goal.C-IsAlwaysCallable g l.call
    × ((answer : _) → (last : _) → Tried (goal.C-step g) l.call answer last → Tried (goal.C-step g) l.initial.call answer last)
