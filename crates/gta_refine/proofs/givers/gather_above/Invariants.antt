use Rattle.std.proofs.Common.{◌≡◌, take}
use Rattle.std.specs.Prelude.{flat_map}
use Rattle.gta_refine.specs.Uses.{above_of}
use Rattle.gta_refine.proofs.givers.gather_above.Given as goal

abbrev pub invariant-loop-listed : goal.invariant-loop-listed
invariant-loop-listed l = l.all.items ≡ flat_map (above_of l.above.leaves l.above.nodes) (take l.listed-index l.list)
