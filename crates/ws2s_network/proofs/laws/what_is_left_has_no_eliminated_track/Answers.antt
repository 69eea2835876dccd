use Rattle.std.proofs.Common.{Contains}
use Rattle.ws2s_network.proofs.NetworkLemmas.{DependOn-formula, DependOn-left}
use Rattle.ws2s_network.proofs.laws.what_is_left_has_no_eliminated_track.Goals as goal

pub returns : goal.returns
returns c = record {
  formula = λ on f. DependOn-formula (Contains on) f;
  left = λ weighed known on. DependOn-left weighed (Contains known) (Contains on);
}
