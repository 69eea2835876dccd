use Rattle.triple_meaning.proofs.sites.FirstsLemmas.{one-first, first-some, some-or-none}
use Rattle.triple_meaning.proofs.sites.one_cause_comes_first.Goals as goal

pub returns : goal.returns
returns c = record {
  one = λ next a checks why other line at first also. one-first next a checks why other line at first also;
  none = λ next a checks why line first none. first-some next a checks why line first none;
  some = λ next a checks finite. some-or-none next a finite checks;
}
