use Rattle.std.proofs.Common.{◌≡◌, length}
use Rattle.std.specs.Prelude.{All}
use Rattle.bdd_nodes.specs.Shelf.{IsValid}
use Rattle.gta_merge.specs.Parts.{ArePartsOf}
use Rattle.gta_merge.proofs.merged.merged_parts.Given as goal

abbrev pub invariant-loop-space : goal.invariant-loop-space
invariant-loop-space l = record {
  many : length l.parts ≡ l.space;
  parts : ArePartsOf l.shelf l.a l.roots l.parts;
  valid : All (IsValid l.shelf) l.roots;
}
