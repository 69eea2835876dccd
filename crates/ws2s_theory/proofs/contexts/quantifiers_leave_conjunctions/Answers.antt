use Rattle.ws2s_theory.proofs.ContextsLemmas.{Same-outside_right, Same-outside_left}
use Rattle.ws2s_theory.proofs.contexts.quantifiers_leave_conjunctions.Goals as goal

pub returns : goal.returns
returns c = record { right = Same-outside_right; left = Same-outside_left }
