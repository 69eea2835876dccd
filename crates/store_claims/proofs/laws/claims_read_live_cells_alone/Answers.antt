use Rattle.store_claims.proofs.Restricted.{satisfied-restricted, assignment-restricted}
use Rattle.store_claims.proofs.laws.claims_read_live_cells_alone.Goals as goal

pub returns : goal.returns
returns c = record {
  claims = λ types vars s claim. satisfied-restricted s types vars claim.region claim.assertion;
  trees = λ types vars s a of. assignment-restricted s types vars a of;
}
