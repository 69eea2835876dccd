use Rattle.std.proofs.lemmas.List.Elements.{All-from_recursion}
use Rattle.hoare_split.specs.Triples.{triples_of}
use Rattle.hoare_split.specs.Fitting.{FitsProgram, IsShort}
use Rattle.hoare_split.proofs.FittingLemmas.{triples-fit, triples-short}
use Rattle.hoare_split.proofs.laws.triples_of_programs_that_fit_fit.Goals as goal

pub returns : goal.returns
returns c = record {
  fits = λ program fits. All-from_recursion (FitsProgram program) (triples_of program)
      (triples-fit c.claims_with_actuals_put_in_fit.ensures program fits);
  short = λ program none. All-from_recursion IsShort (triples_of program) (triples-short program none);
}
