use Rattle.whole_turns.proofs.PieceLemmas.{none_same}
use Rattle.whole_turns.proofs.pieces.first_of.Goals as goal

pub returns-in-None-clause-same : goal.returns-in-None-clause-same
returns-in-None-clause-same c = none_same c.args.block.now c.args.left.now c.in-None.ensures.cases
