use Rattle.graph_meaning.proofs.fields.StandingLemmas.{standing-sits}
use Rattle.graph_meaning.proofs.fields.backbones_have_their_standing.Goals as goal

pub returns : goal.returns
returns c = λ types vars s fits backbone. standing-sits types vars s backbone fits
