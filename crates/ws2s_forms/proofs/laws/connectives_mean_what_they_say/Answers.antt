use Rattle.ws2s_forms.proofs.ConnectivesLemmas.{WSat-false, WSat-true}
use Rattle.ws2s_forms.proofs.LawsLemmas.{law-or, law-imp, law-iff, law-and_list, law-or_list}
use Rattle.ws2s_forms.proofs.laws.connectives_mean_what_they_say.Goals as goal

pub returns : goal.returns
returns c = record {
  never = WSat-false;
  always = WSat-true;
  or = law-or;
  imp = law-imp;
  iff = law-iff;
  and_list = law-and_list;
  or_list = law-or_list;
}
