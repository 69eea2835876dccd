use Rattle.cert_settled.proofs.LinesLemmas.{settling-settled}
use Rattle.cert_settled.proofs.laws.right_lines_tell_settled_lists.Goals as goal

pub returns : goal.returns
returns c g A t starts settles are = settling-settled g A t starts settles are
