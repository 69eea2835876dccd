use Rattle.triple_meaning.proofs.sites.ActsLemmas.{assignment-leads, freeing-leads}
use Rattle.triple_meaning.proofs.sites.AssertingLemmas.{assert-leads}
use Rattle.triple_meaning.proofs.sites.acts_mean_their_steps.Goals as goal

pub returns : goal.returns
returns c = record {
  assignments = λ types vars line p x s fits. assignment-leads types vars line s p x fits;
  frees = λ types vars line v s fits. freeing-leads types vars line s v fits;
  assertions = λ types vars line claim s meant fits. assert-leads types vars meant line s claim fits;
}
