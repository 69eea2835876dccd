use Rattle.cert_check.proofs.WorkedLemmas.{worked-lines}
use Rattle.cert_check.proofs.laws.worked_lines_show_a_contradiction.Goals as goal

pub returns : goal.returns
returns c = worked-lines
