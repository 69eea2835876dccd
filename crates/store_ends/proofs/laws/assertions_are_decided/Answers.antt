use Rattle.store_ends.proofs.DecidedAssertions.{decided_sat}
use Rattle.store_ends.proofs.laws.assertions_are_decided.Goals as goal

pub returns : goal.returns
returns c = decided_sat
