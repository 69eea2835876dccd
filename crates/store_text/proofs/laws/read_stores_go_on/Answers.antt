use Rattle.store_text.proofs.ReadNext as lemma
use Rattle.store_text.proofs.laws.read_stores_go_on.Goals as goal

pub returns : goal.returns
returns c = lemma.read_stores_go_on
