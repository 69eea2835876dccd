use Rattle.ws2s_forms.proofs.LawsLemmas.{law-ex1, law-all1, law-all2}
use Rattle.ws2s_forms.proofs.laws.quantifiers_range_over_positions_and_sets.Goals as goal

pub returns : goal.returns
returns c = record { ex1 = law-ex1; all1 = law-all1; all2 = law-all2 }
