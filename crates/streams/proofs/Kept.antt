-- What the last call does, behind others that failed.
use Rattle.std.proofs.Common.{◌≡◌, ◌∙◌, ap, subst, sym, ℕ, List, ◌∷◌, ◌++◌, None, Some, Option, Result, Ok, Err}
use Rattle.std.specs.Io.KnownBytes.{Appends, Consumes, Keeps, ReadConsumes, WriteAppends}
use Rattle.std.proofs.KnownBytes.{Keeps-trans}
use Rattle.std.proofs.lemmas.Fn.{chained_keeps}
use Rattle.streams.specs.Held.{Tried}

-- one more call that failed, in front of the others
pub tried_again : {C T E : Type 0} (step : C → Result T E → C → Type 0) (first : C) (now : Result T E) (error : E) (next : C) {answer : Result T E} {last : C}
    → step first now next → now ≡ Err error → Tried step next answer last → Tried step first answer last
tried_again {C} {T} {E} step first now error next called is later =
    record {
      errors = error ∷ later.errors;
      before = later.before;
      failed = (next, subst (λ (r : Result T E). step first r next) is called, later.failed);
      answered = later.answered;
    }

-- what each call that fails keeps of how it was at first holds before the last one
pub tried_keeps : {C T E Q : Type 0} (R : C → C → Type 0) {step : C → Result T E → C → Type 0} {first : C} {answer : Result T E} {last : C}
    → Tried step first answer last → R first first → ((p : C) (e : E) (q : C) → R first p → step p (Err e) q → R first q)
    → ((p : C) → R first p → step p answer last → Q) → Q
tried_keeps {C} {E} R {step} {first} tried here keeps ends =
    let failed = chained_keeps (λ p e q. step p (Err e) q) (λ (_ : List E) p. R first p) (λ xs q x v h s. keeps q x v h s) tried.errors first tried.before here tried.failed in
    ends tried.before failed tried.answered

pub kept_appends : (a b c : Option (List ℕ)) (bs : List ℕ) → Keeps a b → Appends b c bs → Appends a c bs
kept_appends None b c bs kept now = tt
kept_appends (Some x) None c bs kept now = absurd kept
kept_appends (Some x) (Some y) None bs kept now = absurd now
kept_appends (Some x) (Some y) (Some z) bs kept now = now ∙ ap (λ l. l ++ bs) kept

pub kept_consumes : (a b c : Option (List ℕ)) (bs : List ℕ) → Keeps a b → Consumes b c bs → Consumes a c bs
kept_consumes None b c bs kept now = tt
kept_consumes (Some x) None c bs kept now = absurd kept
kept_consumes (Some x) (Some y) None bs kept now = absurd now
kept_consumes (Some x) (Some y) (Some z) bs kept now = sym kept ∙ now

pub kept_writes : {E : Type 0} (a b c : Option (List ℕ)) (answer : Result ℕ E) (text : List ℕ) → Keeps a b → WriteAppends b c answer text → WriteAppends a c answer text
kept_writes a b c (Ok count) text kept now = kept_appends _ _ _ _ kept now
kept_writes a b c (Err error) text kept now = Keeps-trans _ _ _ kept now

pub kept_reads : {E : Type 0} (a b c : Option (List ℕ)) (answer : Result ℕ E) (buffer : List ℕ) → Keeps a b → ReadConsumes b c answer buffer → ReadConsumes a c answer buffer
kept_reads a b c (Ok count) buffer kept now = (kept_consumes _ _ _ _ kept now.0, now.1)
kept_reads a b c (Err error) buffer kept now = Keeps-trans _ _ _ kept now
