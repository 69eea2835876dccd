use Rattle.bdd_nodes.proofs.UnderLemmas.{roots_of-unused}
use Rattle.bdd_nodes.proofs.laws.unused_numbers.Goals as goal

pub returns : goal.returns
returns c = λ shelf number is_shelf unused. roots_of-unused shelf is_shelf number unused
