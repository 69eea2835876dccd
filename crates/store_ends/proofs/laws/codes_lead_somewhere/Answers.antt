use Rattle.store_ends.proofs.EndLemmas.{code-leads}
use Rattle.store_ends.proofs.laws.codes_lead_somewhere.Goals as goal

pub returns : goal.returns
returns c = code-leads
