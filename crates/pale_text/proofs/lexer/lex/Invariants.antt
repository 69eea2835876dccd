use Rattle.std.proofs.Common.{length}
use Rattle.pale_text.proofs.LexLemmas.{IsReading}
use Rattle.pale_text.proofs.lexer.lex.Given as goal

abbrev pub invariant-loop-left : goal.invariant-loop-left
invariant-loop-left l = IsReading l.text l.tokens l.place l.left

abbrev pub decreases-loop-left : goal.decreases-loop-left
decreases-loop-left l = length l.left
