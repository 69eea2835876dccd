use Rattle.std.proofs.Common.{◌≡◌, true, false, [], ◌∷◌, ◌++◌, refl, sym, ap, ◌∙◌}
use Rattle.ws2s_core.specs.Examples.{track}
use Rattle.ws2s_core.proofs.ExamplesLemmas.{IsOnly-listed}
use Rattle.ws2s_core.proofs.SatisfactionLemmas.{WSat-Succ0}
use Rattle.ws2s_core.proofs.laws.examples.succ0_is_the_left_child.Goals as goal

pub returns : goal.returns
returns c = record {
  holds = (WSat-Succ0 (track 0) (track 1) _).1 (true ∷ [], IsOnly-listed (true ∷ []), IsOnly-listed (true ∷ false ∷ []));
  fails = λ h.
      let u = (WSat-Succ0 (track 0) (track 1) _).0 h in
      let first : true ∷ [] ≡ u.0 = (u.1 (true ∷ [])).0 refl in
      let second : true ∷ true ∷ [] ≡ u.0 ++ false ∷ [] = (u.2 (true ∷ true ∷ [])).0 refl in
      let both : true ∷ true ∷ [] ≡ true ∷ false ∷ [] = second ∙ sym (ap (λ v. v ++ false ∷ []) first) in
      cc;
}
