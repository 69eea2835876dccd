use Rattle.routing_walks.proofs.DecidedStores.{well_formed_or_fault, no_fault, sound_or_cause, no_cause, first_cause}
use Rattle.routing_walks.proofs.decided.faults_are_decided.Goals as goal

pub returns : goal.returns
returns c = record {
  well_formed = well_formed_or_fault;
  no_fault = λ types vars s is. no_fault types vars s is.fits is;
  sound = sound_or_cause;
  no_cause = no_cause;
  first = first_cause;
}
