use Rattle.ws2s_forms.proofs.GoingLemmas.{WSat-flag}
use Rattle.ws2s_forms.proofs.LawsLemmas.{law-empty, law-equal, law-member}
use Rattle.ws2s_forms.proofs.laws.sets_are_compared.Goals as goal

pub returns : goal.returns
returns c = record { empty = law-empty; equal = law-equal; flag = WSat-flag; member = law-member }
