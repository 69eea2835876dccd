use Rattle.store_text.proofs.ReadFresh as lemma
use Rattle.store_text.proofs.laws.read_stores_are_fresh_below.Goals as goal

pub returns : goal.returns
returns c = lemma.read_stores_are_fresh_below
