use Rattle.ws2s_read.proofs.ResolvedLemmas.{resolved_checked}
use Rattle.ws2s_read.proofs.laws.resolved_texts_are_checked.Goals as goal

pub returns : goal.returns
returns c source text found = resolved_checked source text found
