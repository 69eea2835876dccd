-- Cells of two leaves.
use Rattle.std.proofs.Common.{◌≡◌, ℕ, List, [], ◌∷◌, Option, Some, None, sym, ◌∙◌, ap, refl, arith}
use Rattle.labels.specs.Labels.{Label, empty_label}
use Rattle.bdd_nodes.specs.declared.node_ref.NodeRef.{NodeRef}
use Rattle.bdd_nodes.specs.Shelf.{Contents, IsShelf, IsLeaf, state_of}
use Rattle.bdd_nodes.proofs.CallerLemmas.{Keeps-refl}
use Rattle.bdd_walk.specs.declared.joiner.Joiner.{Joiner}
use Rattle.bdd_walk.specs.Asked.{asked_of, IsGiven}
use Rattle.bdd_walk.specs.Fits.{Fits}
use Rattle.bdd_walk.proofs.FitsLemmas.{Fits-kept}
use Rattle.gta_theory.specs.Constructions.{pairs}
use Rattle.gta_core.specs.Auto.{AutoView, root_at, automaton_of}
use Rattle.gta_product.specs.Numbers.{numbered, AreNumbers, Grows}
use Rattle.gta_product.specs.Filling.{IsNumbered, IsCell, Joins}
use Rattle.gta_product.proofs.NumbersLemmas.{KeepsAnswers-grows, AnswersOnly-grows}
use Rattle.gta_product.proofs.FillingLemmas.{Joins-one, IsCell-one}

module _ (a b : AutoView) (s : ℕ) (l r : ℕ × ℕ) (shelf : Contents) (first second : NodeRef)
    (first_at : root_at shelf a s l.0 r.0 ≡ Some first) (second_at : root_at shelf b s l.1 r.1 ≡ Some second)
    (before after : List (ℕ × ℕ)) (numbers_before : AreNumbers before) (numbers_after : AreNumbers after)
    (one two : ℕ) (first_leaf : IsLeaf first one) (second_leaf : IsLeaf second two) (grows : Grows before after (one, two)) where
  asked-leaves : (label : Label) → asked_of shelf (first ∷ second ∷ []) None label ≡ one ∷ two ∷ []
  asked-leaves label =
      ap (λ (n : ℕ). n ∷ state_of shelf second label ∷ []) (first_leaf.states shelf label)
      ∙ ap (λ (n : ℕ). one ∷ n ∷ []) (second_leaf.states shelf label)

  pub Joins-leaves : IsShelf shelf → Joins (pairs (automaton_of shelf a) (automaton_of shelf b)) s (l ∷ []) (r ∷ []) shelf shelf before after
  unfolding IsGiven
  Joins-leaves is_shelf = Joins-one a b s l r shelf shelf first second first_at second_at before after numbers_before numbers_after
      (Keeps-refl shelf) refl refl is_shelf (KeepsAnswers-grows before after (one, two) grows)
      (λ states n there absent.
      (empty_label, AnswersOnly-grows before after one two grows states n there absent ∙ sym (asked-leaves empty_label)))
      (λ given completes. record {
        parts = [];
        came = λ k d within. absurd (omega arith);
        distinct = λ i j d below within. absurd (omega arith);
        count = omega arith;
      })

  pub IsCell-leaves : (made : NodeRef) → IsNumbered after one two made →
      IsCell (pairs (automaton_of shelf a) (automaton_of shelf b)) s after l r shelf made
  IsCell-leaves made numbered_so = IsCell-one a b s l r shelf shelf first second first_at second_at before after numbers_before numbers_after made
      (numbered_so.leaf.valid shelf)
      (λ label. ap (numbered after) (asked-leaves label) ∙ numbered_so.has
      ∙ ap (λ (n : ℕ). let o : Option ℕ = Some n in o) (sym (numbered_so.leaf.states shelf label)))

  pub Fits-leaves : (joiner : Joiner) → Fits joiner None shelf (numbered before) → Fits joiner None shelf (numbered after)
  Fits-leaves joiner fits =
      Fits-kept shelf shelf (numbered before) (numbered after) (Keeps-refl shelf) (KeepsAnswers-grows before after (one, two) grows) joiner None fits
