use Rattle.store_text.proofs.RoundTrip as lemma
use Rattle.store_text.proofs.laws.written_stores_are_read.Goals as goal

pub returns : goal.returns
returns c = lemma.written_stores_are_read
