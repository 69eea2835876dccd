use Rattle.gta_refine.specs.Refined.{ArePartition}
use Rattle.gta_refine.specs.Looked.{AreLooked}
use Rattle.gta_refine.proofs.rounds.refine_some.Given as goal

abbrev pub invariant-loop : goal.invariant-loop
invariant-loop l = record {
  partition : ArePartition l.form l.spaces.items;
  looked : AreLooked l.form l.spaces.items l.looked.items;
}
