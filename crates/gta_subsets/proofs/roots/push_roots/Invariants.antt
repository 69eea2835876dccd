use Rattle.std.proofs.Common.{[], ◌∷◌, take}
use Rattle.gta_core.specs.Auto.{root_among}
use Rattle.gta_subsets.specs.Roots.{AddRoots}
use Rattle.gta_subsets.proofs.roots.push_roots.Given as goal

abbrev pub invariant-loop-right : goal.invariant-loop-right
invariant-loop-right l = AddRoots (root_among l.table l.own) (l.left ∷ []) (take l.right-index l.rights) l.fn.roots.items l.roots.items
