use Rattle.std.proofs.Common.{◌≡◌, map, take}
use Rattle.bdd_list.specs.declared.listing.Listed.TheVariants.{Leaf}
use Rattle.gta_refine.proofs.givers.leaves.Given as goal

abbrev pub invariant-loop-state : goal.invariant-loop-state
invariant-loop-state l = l.leaves.items ≡ map (λ state. Leaf state) (take l.state-index l.states)
