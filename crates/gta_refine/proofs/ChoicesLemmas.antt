-- Values of a child are its reached states.
use Rattle.std.proofs.Common.{◌≡◌, ℕ, List, [], ◌∷◌, ◌++◌, length, Some, inl, inr, sym, ◌∙◌, subst}
use Rattle.std.specs.Prelude.{slice_get}
use Rattle.gta_theory.proofs.ListedLemmas.{slice_get-push}
use Rattle.gta_reach.specs.declared.form.FormSpace.{FormSpace}
use Rattle.gta_reach.specs.declared.form.Form.{Form}
use Rattle.gta_reach.specs.declared.sides.Side.{Side}
use Rattle.gta_reach.specs.Form.{guide_of, IsForm}
use Rattle.gta_reach.specs.Sides.{kinds_in, child_at}
use Rattle.gta_classes.specs.declared.part.SpaceClasses.{SpaceClasses}
use Rattle.gta_classes.specs.Chosen.{AreChosen}
use Rattle.gta_refine.specs.declared.choices.Choices.{Choices}
use Rattle.gta_refine.specs.Refined.{part_at, ArePartition}
use Rattle.gta_refine.specs.Looked.{AreChosenAt}
use Rattle.gta_refine.specs.Choices.{AreChoicesIn, AreChoices}
use Rattle.gta_refine.proofs.RefineLemmas.{child-space}

module _ (form : Form) (is_form : IsForm form) (spaces : List SpaceClasses) (partition : ArePartition form spaces)
    (s : ℕ) (space : FormSpace) (at : slice_get form.spaces s ≡ Some space) (side : Side) (chosen : List ℕ) where
  pub chosen-values : AreChosen (kinds_in space side) (part_at spaces (child_at (guide_of form) side s)).reached chosen →
      AreChoicesIn form s space side chosen
  chosen-values are =
      let there = child-space form is_form spaces partition s space at side in
      record {
        each = λ q among. (partition.reached.state (child_at (guide_of form) side s) q there).0 (are.each q among);
        all = λ q own. are.all q ((partition.reached.state (child_at (guide_of form) side s) q there).1 own);
      }

  pub values-chosen : AreChoicesIn form s space side chosen →
      AreChosen (kinds_in space side) (part_at spaces (child_at (guide_of form) side s)).reached chosen
  values-chosen are =
      let there = child-space form is_form spaces partition s space at side in
      record {
        each = λ q among. (partition.reached.state (child_at (guide_of form) side s) q there).1 (are.each q among);
        all = λ q reached. are.all q ((partition.reached.state (child_at (guide_of form) side s) q there).0 reached);
      }

-- as the classes are now
pub chosen-at : (form : Form) (is_form : IsForm form) (spaces : List SpaceClasses) (partition : ArePartition form spaces) (s : ℕ) (side : Side)
    (chosen : List ℕ) → AreChoices form s side chosen → AreChosenAt form spaces s side chosen
chosen-at form is_form spaces partition s side chosen are space at =
    values-chosen form is_form spaces partition s space at side chosen (are space at)

-- one space more
pub choices-push : (P : ℕ → Choices → Type 0) (all : List Choices) (below : ℕ) (more : Choices) → length all ≡ below →
    ((s : ℕ) (one : Choices) → slice_get all s ≡ Some one → P s one) → P below more →
    (s : ℕ) (one : Choices) → slice_get (all ++ more ∷ []) s ≡ Some one → P s one
choices-push P all below more many each new s one there = elim (slice_get-push all more one s there) [
  | inl before ↦ each s one before
  | inr last ↦
      let is : below ≡ s = sym many ∙ sym last.0 in
      subst (P s) last.1 (subst (λ (k : ℕ). P k more) is new)
]
