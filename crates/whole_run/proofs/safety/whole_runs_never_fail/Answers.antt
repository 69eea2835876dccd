use Rattle.store_exec.proofs.RestrictedLemmas.{well_formed-at_cut}
use Rattle.whole_run.proofs.CallLaws.{Laws}
use Rattle.whole_run.proofs.Claims.{met_stays}
use Rattle.whole_run.proofs.Procedures.{runs_never_fail}
use Rattle.whole_run.proofs.safety.whole_runs_never_fail.Goals as goal

pub returns : goal.returns
returns c = λ program fits distinct never number s n why line met run.
    let law : Laws = record {
      met = met_stays;
      puts = c.claims_with_actuals_put_in_fit.ensures;
      cut = λ types vars cut s fits none. well_formed-at_cut types vars s fits cut none;
      handed = c.handed_stores_meet_the_entry.ensures;
      formed = c.returned_stores_are_well_formed.ensures;
      started = c.returned_stores_meet_the_start.ensures;
    } in
    runs_never_fail law program fits distinct never number s n why line met run
