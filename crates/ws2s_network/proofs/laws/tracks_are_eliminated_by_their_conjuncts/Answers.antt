use Rattle.ws2s_network.proofs.NetworkLemmas.{IsEliminated-parts}
use Rattle.ws2s_network.proofs.laws.tracks_are_eliminated_by_their_conjuncts.Goals as goal

pub returns : goal.returns
returns c = IsEliminated-parts
