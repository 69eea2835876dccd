use Rattle.std.proofs.Common.{length, ◌≡◌, ◌++◌, map}
use Rattle.cert_text.specs.declared.line.Line.TheVariants as line
use Rattle.cert_lists.specs.States.{ArePairsOf}
use Rattle.cert_lists.proofs.pairs.read_pairs.Given as goal

abbrev pub invariant-loop-line : goal.invariant-loop-line
invariant-loop-line l = (l.fn.lines ≡ map line.Pair l.pairs ++ l.left) × ArePairsOf l.a l.b l.c l.pairs

abbrev pub decreases-loop-line : goal.decreases-loop-line
decreases-loop-line l = length l.left
