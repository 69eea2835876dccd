use Rattle.std.proofs.Common.{◌+◌, ◌*◌, max}
use Rattle.hoare_triples.specs.Weights.{weight_of, weight_behind}
use Rattle.hoare_triples.proofs.codes.+codes.Given as goal

abbrev pub decreases-branch : goal.decreases-branch
decreases-branch l = 3 * max (weight_behind l.taken) (weight_behind l.other) + 3

abbrev pub decreases-code_at : goal.decreases-code_at
decreases-code_at l = 3 * (weight_of l.stmt.now + weight_behind l.rest) + 1

abbrev pub decreases-code_of : goal.decreases-code_of
decreases-code_of l = 3 * weight_behind l.rest + 2
