use Rattle.gta_pinned.specs.Making.{Makes}
use Rattle.gta_pinned.specs.Parts.{AreRoots}
use Rattle.gta_pinned.proofs.parts.roots_of.Given as goal

abbrev pub invariant-loop-k : goal.invariant-loop-k
invariant-loop-k l = record {
  roots : AreRoots l.shelf l.shapes l.k l.height l.width l.roots.items;
  makes : Makes l.fn.shelf l.shelf;
}
