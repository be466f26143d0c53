-- Whatever the functions give for an accepted image is the run of its calls.
-- Assumes nothing.
use Rattle.std.specs.Prelude.{◌≡◌, List, ℕ}
use Rattle.std.proofs.Common.{ap, ◌∙◌, subst₂}
use Rattle.image.specs.Image.{plan_of}
use Rattle.reader.specs.Answer.{ReadPlan}
use Rattle.reader.specs.Tests.{IsAccepted, read_of}
use Rattle.reader.specs.Theorems as reader
use Rattle.state.specs.declared.State.{State}
use Rattle.machine.specs.Answers.{Began}
use Rattle.machine.specs.Answers.{Reply}
use Rattle.machine.specs.States.{fresh}
use Rattle.machine.specs.Calls.{begin_run}
use Rattle.machine.specs.Runs.{Call, Chain}
use Rattle.machine.specs.Theorems as machine
use Rattle.follow.specs.Meaning.{state_after, answers_after}
use Rattle.follow.specs.Theorems as follow

pub of_the_functions : (s : List ℕ) → IsAccepted s → (r : ReadPlan) → r ≡ read_of s → (b : Began) → b ≡ begin_run r.plan
    → (cs : List Call) {rs : List Reply} {end : State} → Chain r.plan b.state cs rs end
    → (b.number ≡ 0) × (rs ≡ answers_after (plan_of s) cs) × (end ≡ state_after (plan_of s) cs)
of_the_functions s a r e b f cs {rs} {end} c =
    let p : r.plan ≡ plan_of s = ap (λ x. x.plan) e ∙ reader.all_of_the_plan s a in
    let q : b ≡ record { number = 0; state = fresh } = f ∙ ap begin_run p ∙ machine.begins (plan_of s) (reader.accepted_sound s a).shape in
    let k = follow.chain (plan_of s) cs (subst₂ (λ pl st. Chain pl st cs rs end) p (ap (λ x. x.state) q) c) in
    (ap (λ x. x.number) q, k.0, k.1)
