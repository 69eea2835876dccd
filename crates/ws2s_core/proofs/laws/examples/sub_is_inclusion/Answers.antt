use Rattle.std.proofs.Common.{◌≡◌, Bool, true, false, [], ◌∷◌, ◌||◌, refl}
use Rattle.std.proofs.lemmas.Bool.{false≢true}
use Rattle.gta_theory.specs.Assignments.{is_same_position}
use Rattle.ws2s_core.specs.Examples.{track}
use Rattle.ws2s_core.proofs.SatisfactionLemmas.{WSat-Sub}
use Rattle.ws2s_core.proofs.laws.examples.sub_is_inclusion.Goals as goal

pub returns : goal.returns
returns c = record {
  holds = (WSat-Sub (track 0) (track 1) _).1 (λ p in_first. kept (is_same_position [] p) (is_same_position (false ∷ []) p) in_first);
  fails = λ h. false≢true ((WSat-Sub (track 1) (track 0) _).0 h (false ∷ []) refl);
}
  where
    kept : (b d : Bool) → b || false ≡ true → b || (d || false) ≡ true
    kept true d e = refl
    kept false d e = absurd (false≢true e)
