use Rattle.gta_theory.proofs.NumberedLemmas.{IsProduct-exists}
use Rattle.gta_theory.proofs.numbered.products_exist.Goals as goal

pub returns : goal.returns
returns c = IsProduct-exists
