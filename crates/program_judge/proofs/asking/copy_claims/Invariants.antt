use Rattle.std.proofs.Common.{◌≡◌, take}
use Rattle.program_judge.proofs.asking.copy_claims.Given as goal

-- the claims so far are copied
abbrev pub invariant-loop-claim : goal.invariant-loop-claim
invariant-loop-claim l = l.copies ≡ take l.claim-index l.claims
