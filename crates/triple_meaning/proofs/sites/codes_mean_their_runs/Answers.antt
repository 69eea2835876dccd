use Rattle.triple_meaning.proofs.sites.CodesLemmas.{code-meant}
use Rattle.triple_meaning.proofs.sites.codes_mean_their_runs.Goals as goal

pub returns : goal.returns
returns c = λ types vars cuts part s meant cuts_meant fits. code-meant types vars meant cuts cuts_meant part fits s
