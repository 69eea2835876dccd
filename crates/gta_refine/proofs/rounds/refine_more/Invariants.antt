use Rattle.std.proofs.Common.{◌≡◌, ◌<◌, ℕ, false}
use Rattle.gta_reach.specs.declared.sides.Side.{Side}
use Rattle.gta_refine.specs.Refined.{ArePartition, IsStableAt, room_in, TakesRoom}
use Rattle.gta_refine.specs.Looked.{AreLooked}
use Rattle.gta_refine.proofs.rounds.refine_more.Given as goal

abbrev pub invariant-loop-s : goal.invariant-loop-s
invariant-loop-s l = record {
  partition : ArePartition l.form l.spaces.items;
  looked : AreLooked l.form l.spaces.items l.looked.items;
  stable : l.is_more ≡ false → (s : ℕ) (side : Side) → s < l.s → IsStableAt l.form l.spaces.items s side;
  room : TakesRoom l.is_more (room_in l.initial.spaces.items) (room_in l.spaces.items);
}
