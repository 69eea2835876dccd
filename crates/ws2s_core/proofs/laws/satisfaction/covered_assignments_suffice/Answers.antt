use Rattle.ws2s_core.proofs.TracksLemmas.{IsFree-bound, Covers-only_below, WSat-only_below}
use Rattle.ws2s_core.proofs.laws.satisfaction.covered_assignments_suffice.Goals as goal

pub returns : goal.returns
returns c = record {
  below = IsFree-bound;
  covered = Covers-only_below;
  satisfied = WSat-only_below;
}
