use Rattle.triple_meaning.proofs.sites.TriplesLemmas.{fails-first, passes-all, first-fails}
use Rattle.triple_meaning.proofs.sites.walks_mean_failing.Goals as goal

pub returns : goal.returns
returns c = record {
  fails = λ types vars t a first next why line meant cuts_meant fits over room defined failing.
      fails-first types vars meant t cuts_meant fits a first over next room defined why line failing;
  passes = λ types vars t a first next place last cut meant cuts_meant fits over room defined runs there right.
      passes-all types vars meant t cuts_meant fits a first over next room defined place last cut runs there right;
  comes = λ types vars t a first next why line meant cuts_meant fits over room defined settled comes.
      first-fails types vars meant t cuts_meant fits a first over next room defined why line settled comes;
}
