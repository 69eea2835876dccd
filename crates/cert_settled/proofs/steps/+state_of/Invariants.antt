use Rattle.cert_nodes.proofs.StatesLemmas.{rank}
use Rattle.cert_settled.proofs.steps.+state_of.Given as goal

-- sides stand before their node
abbrev pub decreases-state_of : goal.decreases-state_of
decreases-state_of l = rank l.target
