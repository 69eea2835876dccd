use Rattle.std.proofs.Common.{◌≡◌, ℕ, length, Some}
use Rattle.std.specs.Prelude.{slice_get}
use Rattle.gta_core.specs.declared.build.SpacePart.{SpacePart}
use Rattle.gta_pinned.specs.Making.{Makes}
use Rattle.gta_pinned.specs.Parts.{IsPartIn}
use Rattle.gta_pinned.proofs.parts.parts.Given as goal

abbrev pub invariant-loop-space : goal.invariant-loop-space
invariant-loop-space l = record {
  many : length l.spaces ≡ l.space;
  parts : (s : ℕ) (part : SpacePart) → slice_get l.spaces s ≡ Some part → IsPartIn l.g l.shelf l.shapes.items s part;
  makes : Makes l.fn.shelf l.shelf;
}
