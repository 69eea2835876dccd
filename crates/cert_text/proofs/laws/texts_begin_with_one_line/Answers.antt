use Rattle.std.proofs.Common.{◌++◌}
use Rattle.cert_text.specs.Spelling.{line_text}
use Rattle.cert_text.proofs.SpelledLemmas.{line_at-reads, read-once}
use Rattle.cert_text.proofs.laws.texts_begin_with_one_line.Goals as goal

pub returns : goal.returns
returns c l m after rest of_l of_m same = read-once (line_text l ++ after) (l, after) (line_at-reads l after of_l) m rest of_m same
