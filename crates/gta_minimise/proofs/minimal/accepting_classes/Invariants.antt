use Rattle.std.proofs.Common.{◌≡◌, take, map, false}
use Rattle.std.specs.Prelude.{slice_index_or}
use Rattle.gta_minimise.proofs.minimal.accepting_classes.Given as goal

abbrev pub invariant-loop-state : goal.invariant-loop-state
invariant-loop-state l = l.flags ≡ map (λ state. slice_index_or l.accepting state false) (take l.state-index l.representatives)
