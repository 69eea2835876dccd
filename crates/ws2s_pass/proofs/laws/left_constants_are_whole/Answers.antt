use Rattle.ws2s_pass.proofs.LeftConstantsLemmas.{without_constants-part}
use Rattle.ws2s_pass.proofs.laws.left_constants_are_whole.Goals as goal

pub returns : goal.returns
returns c = without_constants-part
