use Rattle.std.proofs.Common.{◌≡◌, true, [], ◌∷◌, refl}
use Rattle.std.proofs.lemmas.Bool.{false≢true}
use Rattle.ws2s_core.specs.Examples.{track, none}
use Rattle.ws2s_core.proofs.ExamplesLemmas.{IsOnly-listed}
use Rattle.ws2s_core.proofs.SatisfactionLemmas.{WSat-Single}
use Rattle.ws2s_core.proofs.laws.examples.single_is_one_position.Goals as goal

pub returns : goal.returns
returns c = record {
  holds = (WSat-Single (track 0) _).1 (true ∷ [], IsOnly-listed (true ∷ []));
  fails_with_none = λ h. let u = (WSat-Single (track 0) none).0 h in false≢true ((u.1 u.0).1 refl);
  fails_with_two = λ h.
      let u = (WSat-Single (track 0) _).0 h in
      let one : true ∷ [] ≡ u.0 = (u.1 (true ∷ [])).0 refl in
      let other : [] ≡ u.0 = (u.1 []).0 refl in
      cc;
}
