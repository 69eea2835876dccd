use Rattle.triple_meaning.proofs.claims.StateLemmas.{state-assertion, state-claims, state-part}
use Rattle.triple_meaning.proofs.claims.states_are_told.Goals as goal

pub returns : goal.returns
returns c = record {
  assertions = λ l st a b first s at count next preds it wells agrees few fits.
      state-assertion l st a first s at count wells b next agrees few preds it fits;
  claims = λ l st a b first s at count next x named asserts wells agrees few given on fits.
      state-claims l st a first s at count wells b next agrees few x named asserts given on fits;
  parts = λ l st a b first s at count next x roots wells agrees few below known.
      state-part l st a first s at count wells b next agrees few x roots below known;
}
