-- 01's numbers tell the reasons apart; what a call is answered leaves room for one. Assumes nothing.
use Rattle.std.specs.Prelude.{◌≡◌, refl, ℕ, eqb, List, Result, Ok, Err}
use Rattle.std.proofs.Common.{sym, ap, ap₂, ◌∙◌, arith}
use Rattle.loops.specs.Choice.{if}
use Rattle.refusals.specs.declared.Reason.{Reason}
use Rattle.refusals.specs.declared.Reason.TheVariants.{UnknownProcess, AlreadyOpen, Closed, NotMarked, MarksLeft, OutOfShape, UnknownCode, NotSynchronising}
use Rattle.refusals.specs.declared.Call.{Call}
use Rattle.refusals.specs.declared.Call.TheVariants.{Open, Look, Fire}
use Rattle.refusals.specs.declared.Request.{Request}
use Rattle.refusals.specs.Reasons.{number_of, number_in, Asks, Allows}

-- the reason that a number stands for
unfoldable reason_of : ℕ → Reason
reason_of n =
    if (eqb n 20) UnknownProcess (if (eqb n 21) AlreadyOpen (if (eqb n 22) Closed (if (eqb n 23) NotMarked (if (eqb n 24) MarksLeft
    (if (eqb n 25) OutOfShape (if (eqb n 26) UnknownCode NotSynchronising))))))

reason_back : (r : Reason) → reason_of (number_of r) ≡ r
unfolding reason_of if
reason_back UnknownProcess = refl
reason_back AlreadyOpen = refl
reason_back Closed = refl
reason_back NotMarked = refl
reason_back MarksLeft = refl
reason_back OutOfShape = refl
reason_back UnknownCode = refl
reason_back NotSynchronising = refl

pub reason_one : {a b : Reason} → number_of a ≡ number_of b → a ≡ b
reason_one {a} {b} e = sym (reason_back a) ∙ ap reason_of e ∙ reason_back b

-- no reason has the number 0
pub never_0 : (r : Reason) → number_of r ≡ 0 → ⊥
never_0 UnknownProcess e = absurd (omega (arith, e))
never_0 AlreadyOpen e = absurd (omega (arith, e))
never_0 Closed e = absurd (omega (arith, e))
never_0 NotMarked e = absurd (omega (arith, e))
never_0 MarksLeft e = absurd (omega (arith, e))
never_0 OutOfShape e = absurd (omega (arith, e))
never_0 UnknownCode e = absurd (omega (arith, e))
never_0 NotSynchronising e = absurd (omega (arith, e))

-- a request asks one call
asks_one : (q : Request) (c c' : Call) → Asks q c → Asks q c' → c ≡ c'
asks_one q (Open p) (Open p') a b = ap Open (sym a.1 ∙ b.1)
asks_one q (Open p) (Look p' e') a b = absurd (omega (arith, a.0, b.0))
asks_one q (Open p) (Fire p') a b = absurd (omega (arith, a.0, b.0))
asks_one q (Look p e) (Open p') a b = absurd (omega (arith, a.0, b.0))
asks_one q (Look p e) (Look p' e') a b = ap₂ Look (sym a.1 ∙ b.1) (sym a.2 ∙ b.2)
asks_one q (Look p e) (Fire p') a b = absurd (omega (arith, a.0, b.0))
asks_one q (Fire p) (Open p') a b = absurd (omega (arith, a.0, b.0))
asks_one q (Fire p) (Look p' e') a b = absurd (omega (arith, a.0, b.0))
asks_one q (Fire p) (Fire p') a b = ap Fire (sym a.1 ∙ b.1)

-- what a call is answered: the call that is asked, or the one reason
pub allowed_one : (processes edges : ℕ) (opened marks : List ℕ) (q : Request) (r r' : Result Call Reason)
    → Allows processes edges opened marks q r → Allows processes edges opened marks q r' → r ≡ r'
allowed_one n m o k q (Ok c) (Ok c') a b = ap Ok (asks_one q c c' a.1 b.1)
allowed_one n m o k q (Ok c) (Err x) a b = absurd (never_0 x (b ∙ a.0))
allowed_one n m o k q (Err x) (Ok c) a b = absurd (never_0 x (a ∙ b.0))
allowed_one n m o k q (Err x) (Err y) a b = ap Err (reason_one (a ∙ sym b))

-- 0 or the number that a call is turned down with tells what was answered
pub number_one : (r r' : Result (Unit {0}) Reason) → number_in r ≡ number_in r' → r ≡ r'
number_one (Ok a) (Ok b) e = refl
number_one (Ok a) (Err y) e = absurd (never_0 y (sym e))
number_one (Err x) (Ok b) e = absurd (never_0 x e)
number_one (Err x) (Err y) e = ap Err (reason_one e)
