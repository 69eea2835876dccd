use Rattle.ws2s_network.proofs.NetworkLemmas.{AreEliminated-satisfies, HaveNoModel-eliminated, HaveBound-eliminated}
use Rattle.ws2s_network.proofs.laws.verdicts_are_those_of_what_is_left.Goals as goal

pub returns : goal.returns
returns c = record {
  satisfies = AreEliminated-satisfies;
  none = HaveNoModel-eliminated;
  bound = HaveBound-eliminated;
}
