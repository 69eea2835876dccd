use Rattle.gta_witness.specs.Rules.{key}
use Rattle.gta_witness.specs.Searching.{found_by, weighs_in, GoesOn}
use Rattle.gta_witness.specs.Following.{FollowsState}
use Rattle.gta_witness.proofs.expand.expand_state.Given as goal

abbrev pub invariant-loop-t : goal.invariant-loop-t
invariant-loop-t l = record {
  goes_on : GoesOn l.form (weighs_in l.weighed) (key l.weight) l.fn.search l.search;
  follows : FollowsState l.form (found_by l.search) l.t l.space l.state l.weight;
}
