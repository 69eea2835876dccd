use Rattle.store_text.proofs.ReadFits as lemma
use Rattle.store_text.proofs.laws.read_stores_fit.Goals as goal

pub returns : goal.returns
returns c = lemma.read_stores_fit
