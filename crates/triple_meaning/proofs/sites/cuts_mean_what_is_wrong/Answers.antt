use Rattle.triple_meaning.proofs.sites.CutsLemmas.{arrived-ends}
use Rattle.triple_meaning.proofs.sites.cuts_mean_what_is_wrong.Goals as goal

pub returns : goal.returns
returns c = λ types vars cuts conditions claims place cut s there.
    arrived-ends types vars cuts place cut there (claims place cut there) conditions s
