use Rattle.triple_meaning.proofs.sites.TriplesLemmas.{fails-first, passes-all, first-fails}
use Rattle.triple_meaning.proofs.triples.JoinLemmas.{assertions-meant, cuts-meant}
use Rattle.triple_meaning.proofs.triples.triples_fail_by_the_first_cause.Goals as goal

pub returns : goal.returns
returns c = record {
  fails = λ types vars t a first next why line fits parted over room defined failing.
      fails-first types vars (assertions-meant types vars) t (cuts-meant types vars t fits parted) fits.code a first over next room defined why line failing;
  passes = λ types vars t a first next place last cut fits parted over room defined runs there right.
      passes-all types vars (assertions-meant types vars) t (cuts-meant types vars t fits parted) fits.code a first over next room defined place last cut runs
      there right;
  comes = λ types vars t a first next why line fits parted over room defined settled comes.
      first-fails types vars (assertions-meant types vars) t (cuts-meant types vars t fits parted) fits.code a first over next room defined why line settled
      comes;
}
