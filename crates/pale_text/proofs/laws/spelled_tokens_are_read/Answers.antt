use Rattle.pale_text.proofs.SpelledLemmas as lemma
use Rattle.pale_text.proofs.laws.spelled_tokens_are_read.Goals as goal

pub returns : goal.returns
returns c = lemma.spelled_tokens_are_read
