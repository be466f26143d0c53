-- A flush that failed keeps what the output holds.
use Rattle.std.proofs.Common.{◌≡◌, refl, rules}
use Rattle.std.specs.Io.KnownBytes.{Keeps}
use Rattle.std.proofs.KnownBytes.{Keeps-refl, Keeps-trans}
use denote.MutBor.{MutBor}
use Rattle.streams.proofs.Kept.{tried_keeps}
use Rattle.streams.proofs.flush.Goals as goal

pub returns : goal.returns
returns g c =
    let C : Type 0 = record { 0 : MutBor g.row.O.Denot } in
    let R : C → C → Type 0 = λ s p. (s.0.ghost_name ≡ p.0.ghost_name) × Keeps (g.O.Write.contents s.0.now) (g.O.Write.contents p.0.now) in
    tried_keeps R c.tried.ensures (refl, Keeps-refl _)
    (λ p e q k s. let kept : Keeps (g.O.Write.contents p.0.now) (g.O.Write.contents q.0.now) = search rules in (search rules, Keeps-trans _ _ _ k.1 kept))
    (λ p k s. Keeps-trans _ _ _ k.1 (search rules))
