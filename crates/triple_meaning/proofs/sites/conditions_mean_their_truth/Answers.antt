use Rattle.triple_meaning.proofs.sites.ConditionsLemmas.{condition-means}
use Rattle.triple_meaning.proofs.sites.conditions_mean_their_truth.Goals as goal

pub returns : goal.returns
returns c = λ types vars line cond fits. condition-means types vars line cond fits
