-- Whatever the code's functions give for an accepted image is the run of its calls: each result read by the map that its promise names.
-- Assumes nothing.
use Rattle.std.specs.Prelude.{◌≡◌, List, ℕ}
use Rattle.plan.specs.declared.Plan.{Plan}
use Rattle.image.specs.Image.{plan_of}
use Rattle.reader.specs.declared.ReadPlan as read
use Rattle.reader.specs.Answer.{told}
use Rattle.reader.specs.Tests.{IsAccepted, read_of}
use Rattle.state.specs.declared.State.{State}
use Rattle.machine.specs.Calls.{begin_run}
use Rattle.machine.specs.Runs.{Call, Chain}
use Rattle.machine.specs.Runs as runs
use Rattle.calls.specs.declared.Turned as turned
use Rattle.calls.specs.declared.Began as begun
use Rattle.calls.specs.Answers.{turned_of, began_of}
use Rattle.follow.specs.Meaning.{state_after, answers_after}
use Rattle.demands.specs.Steps.{Steps, none, more, replies}
use Rattle.demands.specs.Functions.{of_the_functions}

is_chain : {pl : Plan} {st end : State} {cs : List Call} {ts : List turned.Turned} → Steps pl st cs ts end → Chain pl st cs (replies ts) end
unfolding replies
is_chain none = runs.done
is_chain (more t e k) = runs.then (turned_of t) e (is_chain k)

pub of_the_code : (s : List ℕ) → IsAccepted s → (r : read.ReadPlan) → told r ≡ read_of s → (b : begun.Began) → began_of b ≡ begin_run r.plan
    → (cs : List Call) {ts : List turned.Turned} {end : State} → Steps r.plan b.state cs ts end
    → (b.number ≡ 0) × (replies ts ≡ answers_after (plan_of s) cs) × (end ≡ state_after (plan_of s) cs)
of_the_code s a r e b f cs k = of_the_functions s a (told r) e (began_of b) f cs (is_chain k)
