use Rattle.std.proofs.Common.{false, [], ◌∷◌, ◌||◌, refl, arith}
use Rattle.std.proofs.lemmas.Bool.{false≢true}
use Rattle.gta_theory.specs.Assignments.{PositionSet, IsWithin, is_same_position}
use Rattle.ws2s_core.specs.declared.formula.Formula.TheVariants.{Sub, Root, And}
use Rattle.ws2s_core.specs.Examples.{track, none}
use Rattle.ws2s_core.proofs.ExamplesLemmas.{IsOnly-listed}
use Rattle.ws2s_core.proofs.SatisfactionLemmas.{WSat-Sub, WSat-Root, WSat-And, WSat-Ex2}
use Rattle.ws2s_core.proofs.laws.examples.quantifier_finds_a_set.Goals as goal

root_set : PositionSet
root_set p = is_same_position [] p || false

root_set-within : IsWithin 1 root_set
unfolding root_set
root_set-within [] deep = absurd (omega arith)
root_set-within (b ∷ p) deep = refl

pub returns : goal.returns
unfolding root_set
returns c = record {
  holds = (WSat-Ex2 (track 1) (And (Root (track 1)) (Sub (track 1) (track 0))) _).1 (
    root_set,
    (1, root_set-within),
    (WSat-And (Root (track 1)) (Sub (track 1) (track 0)) _).1
        ((WSat-Root (track 1) _).1 (IsOnly-listed []), (WSat-Sub (track 1) (track 0) _).1 (λ p inside. inside)),
  );
  fails = λ h.
      let set = (WSat-Ex2 (track 1) (And (Root (track 1)) (Sub (track 1) (track 0))) none).0 h in
      let both = (WSat-And (Root (track 1)) (Sub (track 1) (track 0)) _).0 set.2 in
      let root = ((WSat-Root (track 1) _).0 both.0 []).1 refl in
      false≢true ((WSat-Sub (track 1) (track 0) _).0 both.1 [] root);
}
