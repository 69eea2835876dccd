use Rattle.std.proofs.Common.{◌≡◌, true, false, [], ◌∷◌, ◌++◌, refl, sym, ap, ◌∙◌}
use Rattle.ws2s_core.specs.Examples.{track}
use Rattle.ws2s_core.proofs.ExamplesLemmas.{IsOnly-listed}
use Rattle.ws2s_core.proofs.SatisfactionLemmas.{WSat-Succ1}
use Rattle.ws2s_core.proofs.laws.examples.succ1_is_the_right_child.Goals as goal

pub returns : goal.returns
returns c = record {
  holds = (WSat-Succ1 (track 0) (track 1) _).1 (false ∷ [], IsOnly-listed (false ∷ []), IsOnly-listed (false ∷ true ∷ []));
  fails = λ h.
      let u = (WSat-Succ1 (track 0) (track 1) _).0 h in
      let first : false ∷ [] ≡ u.0 = (u.1 (false ∷ [])).0 refl in
      let second : true ∷ false ∷ [] ≡ u.0 ++ true ∷ [] = (u.2 (true ∷ false ∷ [])).0 refl in
      let both : true ∷ false ∷ [] ≡ false ∷ true ∷ [] = second ∙ sym (ap (λ v. v ++ true ∷ []) first) in
      cc;
}
