use Rattle.gta_atom.specs.Children.{Finding}
use Rattle.gta_atom.proofs.ChildrenLemmas.{weight}
use Rattle.gta_atom.proofs.child_test.find.Given as goal

abbrev pub invariant-loop-space : goal.invariant-loop-space
invariant-loop-space l = Finding l.g l.by_zero.items l.by_one.items l.met.items l.waiting.items

abbrev pub decreases-loop-space : goal.decreases-loop-space
decreases-loop-space l = weight l.met.items l.waiting.items
