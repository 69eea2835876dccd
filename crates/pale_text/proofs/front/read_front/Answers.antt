use Rattle.pale_text.proofs.LexLemmas.{comment_stands_first}
use Rattle.pale_text.proofs.front.read_front.Goals as goal

pub returns-then-text-eq35 : goal.returns-then-text-eq35
returns-then-text-eq35 c = comment_stands_first c.args.text.now c.line_length.result c.requires c.if-text-eq35.true c.line_length.ensures
