-- The words in which calls and token readings are answered tell every two results apart. Assumes nothing.
use Rattle.std.specs.Prelude.{◌≡◌, refl, ℕ, Option, Some, None, Result, Ok, Err}
use Rattle.std.proofs.Common.{ap, arith, sym, ◌∙◌}
use Rattle.refusals.specs.declared.Reason.{Reason}
use Rattle.refusals.specs.Apart.{reason_one}
use Rattle.machine.specs.declared.Done as code
use Rattle.machine.specs.declared.Done.TheVariants as done
use Rattle.machine.specs.Answers.{Reply, Opened, Found, Wait, Fired, Refused, Tokens, Unread, replied, level_of}

-- what was done, out of a reply that is no refusal
abbrev done_of : Reply → Option code.Done
done_of (Opened edges) = Some (done.Opened edges)
done_of (Found left) = Some (done.Found left)
done_of (Wait left) = Some (done.Wait left)
done_of (Fired node) = Some (done.Fired node)
done_of (Refused number) = None

abbrev number_told : Reply → ℕ
number_told (Refused number) = number
number_told (Opened edges) = 0
number_told (Found left) = 0
number_told (Wait left) = 0
number_told (Fired node) = 0

done_back : (d : code.Done) → done_of (replied (Ok d)) ≡ Some d
done_back (done.Opened edges) = refl
done_back (done.Found left) = refl
done_back (done.Wait left) = refl
done_back (done.Fired node) = refl

some_one : {a b : code.Done} → Some a ≡ Some b → a ≡ b
some_one e = cc

some_none : {a : code.Done} → Some a ≡ None → ⊥
some_none e = let z : ◌≡◌ {A = ℕ} 0 1 = cc in omega arith

pub replied_one : (r r' : Result code.Done Reason) → replied r ≡ replied r' → r ≡ r'
replied_one (Ok a) (Ok b) e = ap Ok (some_one (sym (done_back a) ∙ ap done_of e ∙ done_back b))
replied_one (Ok a) (Err x) e = absurd (some_none (sym (done_back a) ∙ ap done_of e))
replied_one (Err x) (Ok a) e = absurd (some_none (sym (done_back a) ∙ ap done_of (sym e)))
replied_one (Err x) (Err y) e = ap Err (reason_one (ap number_told e))

tokens_one : {m n : ℕ} → Tokens m ≡ Tokens n → m ≡ n
tokens_one e = cc

unread_one : {m n : ℕ} → Unread m ≡ Unread n → m ≡ n
unread_one e = cc

tokens_not_unread : {m n : ℕ} → Tokens m ≡ Unread n → ⊥
tokens_not_unread e = let z : ◌≡◌ {A = ℕ} 0 1 = cc in omega arith

pub level_one : (r r' : Result ℕ Reason) → level_of r ≡ level_of r' → r ≡ r'
level_one (Ok m) (Ok n) e = ap Ok (tokens_one e)
level_one (Ok m) (Err x) e = absurd (tokens_not_unread e)
level_one (Err x) (Ok m) e = absurd (tokens_not_unread (sym e))
level_one (Err x) (Err y) e = ap Err (reason_one (unread_one e))
