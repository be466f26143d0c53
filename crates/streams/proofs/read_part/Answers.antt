-- A read that failed takes nothing.
use Rattle.std.proofs.Common.{◌≡◌, refl, ◌∙◌, rules, ℕ, List}
use Rattle.std.specs.Io.KnownBytes.{Keeps}
use Rattle.std.proofs.KnownBytes.{Keeps-refl, Keeps-trans}
use denote.MutBor.{MutBor}
use Rattle.streams.proofs.Kept.{tried_keeps, kept_reads}
use Rattle.streams.proofs.read_part.Goals as goal

pub returns-clause-bound : goal.returns-clause-bound
returns-clause-bound g c =
    let C : Type 0 = MutBor g.row.I.Denot × MutBor (List ℕ) in
    let R : C → C → Type 0 = λ s p. s.1.ghost_name ≡ p.1.ghost_name in
    tried_keeps R c.tried.ensures refl
    (λ p e q k s. k ∙ search rules) (λ p k s. search rules)

pub returns-clause-bytes : goal.returns-clause-bytes
returns-clause-bytes g c =
    let C : Type 0 = MutBor g.row.I.Denot × MutBor (List ℕ) in
    let R : C → C → Type 0 = λ s p. (s.0.ghost_name ≡ p.0.ghost_name) × (s.1.ghost_name ≡ p.1.ghost_name) × Keeps (g.I.Read.remaining s.0.now) (g.I.Read.remaining p.0.now) in
    tried_keeps R c.tried.ensures (refl, refl, Keeps-refl _)
    (λ p e q k s. let kept : Keeps (g.I.Read.remaining p.0.now) (g.I.Read.remaining q.0.now) = search rules in (search rules, search rules, Keeps-trans _ _ _ k.2 kept))
    (λ p k s. kept_reads _ _ _ _ _ k.2 (search rules))
