use Rattle.std.proofs.Common.{length, ◌-◌}
use Rattle.pale_parts.proofs.PartLemmas.{Looked}
use Rattle.pale_parts.proofs.parts.cut_text.Given as goal

abbrev pub invariant-loop-start : goal.invariant-loop-start
invariant-loop-start l = Looked l.text l.start

abbrev pub decreases-loop-start : goal.decreases-loop-start
decreases-loop-start l = length l.text - l.start
