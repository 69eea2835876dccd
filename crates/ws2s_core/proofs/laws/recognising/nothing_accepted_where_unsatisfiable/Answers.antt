use Rattle.gta_theory.specs.Assignments.{only_below}
use Rattle.ws2s_core.specs.Tracks.{track_bound}
use Rattle.ws2s_core.proofs.RecognisingLemmas.{accepted-satisfied, satisfied-accepted}
use Rattle.ws2s_core.proofs.laws.recognising.nothing_accepted_where_unsatisfiable.Goals as goal

pub returns : goal.returns
returns c = λ g A f guide of_A. (
  (λ nothing a finite h. nothing (only_below (track_bound f) a) (satisfied-accepted g guide A f of_A a finite h)),
  (λ unsatisfied a h. let s = accepted-satisfied g guide A f of_A a h in unsatisfied a s.0 s.1),
)
