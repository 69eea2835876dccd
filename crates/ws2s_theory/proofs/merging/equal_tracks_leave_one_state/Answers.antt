use Rattle.ws2s_theory.proofs.EqualTracksLemmas.{IsMinimalOf-Sub_same, IsMinimalOf-Succ0_same, IsMinimalOf-Succ1_same}
use Rattle.ws2s_theory.proofs.merging.equal_tracks_leave_one_state.Goals as goal

pub returns : goal.returns
returns c = record {
  sub = λ g x guide. IsMinimalOf-Sub_same g guide x;
  succ0 = λ g x guide. IsMinimalOf-Succ0_same g guide x;
  succ1 = λ g x guide. IsMinimalOf-Succ1_same g guide x;
}
