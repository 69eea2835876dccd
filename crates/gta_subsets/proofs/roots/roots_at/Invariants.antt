use Rattle.std.proofs.Common.{[], take}
use Rattle.gta_subsets.specs.Roots.{rooting_in, AddRoots}
use Rattle.gta_subsets.proofs.roots.roots_at.Given as goal

abbrev pub invariant-loop-left : goal.invariant-loop-left
invariant-loop-left l = AddRoots (rooting_in l.a l.table l.space) (take l.left-index l.lefts) l.rights [] l.roots.items
