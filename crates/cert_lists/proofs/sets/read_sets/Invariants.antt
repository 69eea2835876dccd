use Rattle.std.proofs.Common.{length, ◌≡◌, ◌++◌, map}
use Rattle.cert_text.specs.declared.line.Line.TheVariants as line
use Rattle.cert_lists.specs.States.{AreSetsOf}
use Rattle.cert_lists.proofs.sets.read_sets.Given as goal

abbrev pub invariant-loop-line : goal.invariant-loop-line
invariant-loop-line l = (l.fn.lines ≡ map line.Set l.sets ++ l.left) × AreSetsOf l.a l.c l.sets

abbrev pub decreases-loop-line : goal.decreases-loop-line
decreases-loop-line l = length l.left
