use Rattle.whole_turns.specs.Standings.{left_of}
use Rattle.whole_turns.specs.Turning.{Skips, weight_of}
use Rattle.whole_turns.proofs.pieces.next_statement.Given as goal

abbrev pub invariant-loop-piece : goal.invariant-loop-piece
invariant-loop-piece l = Skips (left_of l.fn.left) (left_of l.left)

abbrev pub decreases-loop-piece : goal.decreases-loop-piece
decreases-loop-piece l = weight_of l.left
