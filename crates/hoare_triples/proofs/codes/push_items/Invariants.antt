use Rattle.hoare_triples.specs.Weights.{weight_behind}
use Rattle.hoare_triples.specs.Following.{IsGone}
use Rattle.hoare_triples.proofs.codes.push_items.Given as goal

abbrev pub invariant-loop-left : goal.invariant-loop-left
invariant-loop-left l = IsGone l.initial.items l.items l.initial.left l.left

abbrev pub decreases-loop-left : goal.decreases-loop-left
decreases-loop-left l = weight_behind l.left
