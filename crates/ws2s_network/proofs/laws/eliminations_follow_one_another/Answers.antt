use Rattle.ws2s_network.proofs.NetworkLemmas.{AreEliminated-more, AreEliminated-last, AreEliminated-same}
use Rattle.ws2s_network.proofs.laws.eliminations_follow_one_another.Goals as goal

pub returns : goal.returns
returns c = record {
  one_more = AreEliminated-more;
  last = AreEliminated-last;
  same = AreEliminated-same;
}
