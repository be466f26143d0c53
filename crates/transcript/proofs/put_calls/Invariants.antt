use Rattle.std.proofs.Common.{◌*◌, ◌≡◌}
use Rattle.transcript.specs.Running.{Running}
use Rattle.transcript.proofs.put_calls.Given as goal

abbrev pub invariant-loop-index : goal.invariant-loop-index
invariant-loop-index l =
    Running l.plan l.calls l.fn.text.buffer.now l.fn.text.length l.index (4 * l.index) l.state l.text.buffer.now l.text.length
    × (l.text.buffer.ghost_name ≡ l.fn.text.buffer.ghost_name)
