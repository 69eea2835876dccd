use Rattle.ws2s_core.proofs.SatisfactionLemmas.{WSat-Sub, WSat-Single, WSat-Succ0, WSat-Succ1, WSat-Root, WSat-And, WSat-Not, WSat-Ex2}
use Rattle.ws2s_core.proofs.laws.satisfaction.satisfaction_goes_by_cases.Goals as goal

pub returns : goal.returns
returns c = record {
  sub = WSat-Sub;
  single = WSat-Single;
  succ0 = WSat-Succ0;
  succ1 = WSat-Succ1;
  root = WSat-Root;
  conjunction = WSat-And;
  negation = WSat-Not;
  quantifier = WSat-Ex2;
}
