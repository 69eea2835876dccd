use Rattle.pale_text.proofs.ReadingLemmas as lemma
use Rattle.pale_text.proofs.laws.tokens_are_one.Goals as goal

pub returns : goal.returns
returns c = lemma.tokens_are_one
