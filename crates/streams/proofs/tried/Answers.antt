-- A call that failed, and then the others.
use Rattle.std.proofs.Common.{of_calls}
use Rattle.streams.proofs.Kept.{tried_again}
use Rattle.streams.proofs.tried.Goals as goal

pub loop-preserved : goal.loop-preserved
loop-preserved g c =
    let h : goal.C-step g c.loop.call c.call.result c.call.new.self = search of_calls in
    (search of_calls, λ answer last later. c.loop.invariant.1 answer last (tried_again (goal.C-step g) _ _ _ _ h c.in-Err.is later))
