use Rattle.std.proofs.Common.{◌≤◌}
use Rattle.gta_refine.specs.Refined.{ArePartition, room_in}
use Rattle.gta_refine.specs.Cuts.{AllCover}
use Rattle.gta_refine.specs.Looked.{AreFiner}
use Rattle.gta_refine.specs.Scratch.{IsReady}
use Rattle.gta_refine.proofs.cascade.cascade.Given as goal

abbrev pub invariant-loop : goal.invariant-loop
invariant-loop l = record {
  partition : ArePartition l.form l.spaces.items;
  finer : AreFiner l.fn.spaces.items l.spaces.items;
  covers : AllCover l.spaces.items l.lists.items;
  ready : IsReady l.spaces.items l.scratch;
  room : room_in l.spaces.items ≤ room_in l.fn.spaces.items;
}
