use Rattle.cert_theory.proofs.SettledLemmas.{settled-lists}
use Rattle.cert_theory.proofs.tables.settled_lists_have_the_settled_states.Goals as goal

pub returns : goal.returns
returns c = λ g A t list is s q. settled-lists g A t list is s q
