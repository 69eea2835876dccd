use Rattle.ws2s_pass.proofs.PartsLemmas.{used-part}
use Rattle.ws2s_pass.proofs.laws.left_quantifiers_are_used.Goals as goal

pub returns : goal.returns
returns c = used-part
