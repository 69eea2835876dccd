use Rattle.std.proofs.Common.{Contains}
use Rattle.ws2s_network.proofs.NetworkLemmas.{value-some, value-found, weight-agree}
use Rattle.ws2s_network.proofs.laws.eliminated_tracks_have_values.Goals as goal

pub returns : goal.returns
returns c = record {
  some = value-some;
  found = λ known. value-found (Contains known);
  weighs = weight-agree;
}
