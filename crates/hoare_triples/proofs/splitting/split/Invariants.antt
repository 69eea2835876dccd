use Rattle.std.proofs.Common.{◌-◌, ◌^◌}
use Rattle.hoare_triples.proofs.SplittingLemmas.{SplitUpto}
use Rattle.hoare_triples.proofs.splitting.split.Given as goal

-- the procedures before this one have no fault, and their triples are there
abbrev pub invariant-loop-caller : goal.invariant-loop-caller
invariant-loop-caller l = SplitUpto l.t l.number l.triples

abbrev pub decreases-loop-caller : goal.decreases-loop-caller
decreases-loop-caller l = 2 ^ 32 - l.number
