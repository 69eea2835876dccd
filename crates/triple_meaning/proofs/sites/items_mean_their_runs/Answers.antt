use Rattle.triple_meaning.proofs.sites.ItemsLemmas.{items-meant}
use Rattle.triple_meaning.proofs.sites.items_mean_their_runs.Goals as goal

pub returns : goal.returns
returns c = λ types vars parts s meant fits. items-meant types vars meant parts fits s
