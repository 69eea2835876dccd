use Rattle.gta_refine.specs.Refined.{ArePartition, room_in}
use Rattle.gta_refine.specs.Looked.{AreLooked}
use Rattle.gta_refine.specs.Uses.{AreUses}
use Rattle.gta_refine.proofs.rounds.refine_fully.Given as goal

abbrev pub invariant-rounds : goal.invariant-rounds
invariant-rounds l = record {
  partition : ArePartition l.form l.spaces.items;
  looked : AreLooked l.form l.spaces.items l.looked.items;
  uses : AreUses l.form l.uses.items;
}

abbrev pub decreases-rounds : goal.decreases-rounds
decreases-rounds l = room_in l.spaces.items
