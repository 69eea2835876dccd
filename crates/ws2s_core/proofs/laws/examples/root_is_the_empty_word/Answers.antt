use Rattle.std.proofs.Common.{◌≡◌, false, [], ◌∷◌, refl}
use Rattle.ws2s_core.specs.Examples.{track}
use Rattle.ws2s_core.proofs.ExamplesLemmas.{IsOnly-listed}
use Rattle.ws2s_core.proofs.SatisfactionLemmas.{WSat-Root}
use Rattle.ws2s_core.proofs.laws.examples.root_is_the_empty_word.Goals as goal

pub returns : goal.returns
returns c = record {
  holds = (WSat-Root (track 0) _).1 (IsOnly-listed []);
  fails = λ h. let there : false ∷ [] ≡ [] = ((WSat-Root (track 0) _).0 h (false ∷ [])).0 refl in cc;
}
