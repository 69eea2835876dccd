use Rattle.gta_room.specs.Progress.{Adds}
use Rattle.gta_minimise.specs.Quotient.{IsUnderClasses, AreQuotientSpaces}
use Rattle.gta_minimise.proofs.minimal.quotient_spaces.Given as goal

abbrev pub invariant-loop-space : goal.invariant-loop-space
invariant-loop-space l = record {
  adds : Adds (IsUnderClasses l.form l.classes) l.fn.shelf l.shelf;
  parts : AreQuotientSpaces l.shelf l.form l.classes l.parts l.roots l.space;
}
