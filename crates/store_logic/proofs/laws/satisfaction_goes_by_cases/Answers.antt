use Rattle.std.proofs.Common.{reverse}
use Rattle.store_logic.specs.Satisfaction.{Says}
use Rattle.store_logic.proofs.HoldsLemmas.{Holds-True, Holds-False, Holds-Truth, Holds-Is, Holds-Same, Holds-Member, Holds-Subset, Holds-Walk}
use Rattle.store_logic.proofs.HoldsLemmas.{Holds-Pred, Holds-Not, Holds-And, Holds-Or, Holds-Imp, Holds-Iff, Holds-Ex, Holds-All, Holds-ExSet}
use Rattle.store_logic.proofs.HoldsLemmas.{Holds-AllSet}
use Rattle.store_logic.proofs.laws.satisfaction_goes_by_cases.Goals as goal

pub returns : goal.returns
returns c = λ types preds s. record {
  true_ = λ e. (Holds-True types s (Says types s (reverse preds)) e).1 tt;
  false_ = λ e. (Holds-False types s (Says types s (reverse preds)) e).0;
  truth = Holds-Truth types s (Says types s (reverse preds));
  is = Holds-Is types s (Says types s (reverse preds));
  same = Holds-Same types s (Says types s (reverse preds));
  member = Holds-Member types s (Says types s (reverse preds));
  subset = Holds-Subset types s (Says types s (reverse preds));
  walk = Holds-Walk types s (Says types s (reverse preds));
  pred = Holds-Pred types s (Says types s (reverse preds));
  negation = Holds-Not types s (Says types s (reverse preds));
  conjunction = Holds-And types s (Says types s (reverse preds));
  disjunction = Holds-Or types s (Says types s (reverse preds));
  implication = Holds-Imp types s (Says types s (reverse preds));
  equivalence = Holds-Iff types s (Says types s (reverse preds));
  some_cell = Holds-Ex types s (Says types s (reverse preds));
  all_cells = Holds-All types s (Says types s (reverse preds));
  some_set = Holds-ExSet types s (Says types s (reverse preds));
  all_sets = Holds-AllSet types s (Says types s (reverse preds));
}
