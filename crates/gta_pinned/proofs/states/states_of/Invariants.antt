use Rattle.std.proofs.Common.{◌≡◌, vec_len}
use Rattle.gta_pinned.specs.Making.{Makes}
use Rattle.gta_pinned.specs.Shapes.{AreShapes}
use Rattle.gta_pinned.specs.States.{AreStates}
use Rattle.gta_pinned.proofs.states.states_of.Given as goal

abbrev pub invariant-loop-k : goal.invariant-loop-k
invariant-loop-k l = record {
  many : vec_len l.states ≡ l.k;
  shapes : AreShapes l.g l.shelf l.rising l.shapes.items;
  states : AreStates l.shelf l.rising l.shapes.items l.nodes l.spaces l.states.items;
  makes : Makes l.fn.shelf l.shelf;
}
