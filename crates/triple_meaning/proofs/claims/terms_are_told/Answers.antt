use Rattle.triple_meaning.proofs.claims.TermLemmas.{value-means, term-truth-means}
use Rattle.triple_meaning.proofs.claims.terms_are_told.Goals as goal

pub returns : goal.returns
returns c = record {
  cells = λ l view a b first s t at count own sorts e term ty wells agrees few bound fits.
      value-means l view a first s t at count wells own b agrees few sorts e bound term ty fits;
  truths = λ l view a b first s t at count own sorts e term wells agrees few bound fits.
      term-truth-means l view a first s t at count wells own b agrees few sorts e bound term fits;
}
