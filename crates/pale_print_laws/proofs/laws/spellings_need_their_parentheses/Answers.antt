use Rattle.pale_print_laws.proofs.ShortLemmas.{parentheses_needed}
use Rattle.pale_print_laws.proofs.laws.spellings_need_their_parentheses.Goals as goal

pub returns : goal.returns
returns c = parentheses_needed
