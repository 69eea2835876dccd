use Rattle.routing_walks.proofs.PathLemmas.{StandsAt-one}
use Rattle.routing_walks.proofs.paths.paths_lead_to_one_cell.Goals as goal

pub returns : goal.returns
returns c = StandsAt-one
