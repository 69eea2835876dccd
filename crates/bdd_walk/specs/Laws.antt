-- The laws of the kinds of keys: equal keys ask the same, and a shelf that keeps its references keeps what keys ask.
use Rattle.std.specs.Prelude.{◌≡◌, ℕ, Bool, true, false, List, [], ◌∷◌, IsTrue, ◌&&◌, nat_eq}
use Rattle.std.specs.List.{list_all}
use Rattle.std.proofs.Common.{◌∙◌, ap, refl, subst}
use Rattle.std.proofs.lemmas.Bool.{eqb-true, false≢true}
use Rattle.bdd_nodes.specs.declared.node_ref.NodeRef.{NodeRef}
use Rattle.labels.specs.Labels.{Label}
use Rattle.bdd_nodes.specs.Shelf.{Contents, state_of}
use Rattle.bdd_nodes.specs.Changes.{Keeps, is_valid}
use Rattle.bdd_nodes.proofs.SplitLemmas.{is_valid-true, is_valid-IsValid}
use Rattle.bdd_walk.specs.Asked.{leaves_of}
use Rattle.bdd_walk.specs.Stands.{Asking, AsksSame}
use Rattle.bdd_walk.specs.Waits.{Respects}

-- the parts of a conjunction
pub and-left : (a b : Bool) → IsTrue (a && b) → IsTrue a
and-left true b e = refl
and-left false b e = e

pub and-right : (a b : Bool) → IsTrue (a && b) → IsTrue b
and-right true b e = e
and-right false b e = absurd (false≢true e)

pub and-both : (a b : Bool) → IsTrue a → IsTrue b → IsTrue (a && b)
and-both a b p q = ap (λ (c : Bool). c && b) p ∙ q

-- what the references are in a shelf that keeps them
module _ (old new : Contents) (keeps : Keeps old new) where
  pub valid-kept : (rs : List NodeRef) → IsTrue (list_all (is_valid old) rs) → IsTrue (list_all (is_valid new) rs)
  valid-kept [] valid = refl
  valid-kept (r ∷ rs) valid =
      and-both (is_valid new r) (list_all (is_valid new) rs)
      (is_valid-IsValid new r (keeps.valid r (is_valid-true old r (and-left (is_valid old r) (list_all (is_valid old) rs) valid))))
      (valid-kept rs (and-right (is_valid old r) (list_all (is_valid old) rs) valid))

  pub leaves-kept : (rs : List NodeRef) (label : Label) → IsTrue (list_all (is_valid old) rs) → leaves_of new rs label ≡ leaves_of old rs label
  leaves-kept [] label valid = refl
  leaves-kept (r ∷ rs) label valid =
      ap (λ (state : ℕ). state ∷ leaves_of new rs label)
      (keeps.states r label (is_valid-true old r (and-left (is_valid old r) (list_all (is_valid old) rs) valid)))
      ∙ ap (λ (states : List ℕ). state_of old r label ∷ states) (leaves-kept rs label (and-right (is_valid old r) (list_all (is_valid old) rs) valid))

-- equal words are equal references
pub same_word : (a b : NodeRef) → nat_eq a.word b.word ≡ true → a ≡ b
same_word a b e = ap (λ (w : ℕ). let r : NodeRef = record { word = w } in r) (eqb-true a.word b.word e)

-- keys that are equal where a test says so
pub Respects-equal : {K : Type 0} (eq : K → K → Bool) (asked : K → Asking) (is_in : K → Bool) →
    ((a b : K) → eq a b ≡ true → a ≡ b) → Respects eq asked is_in
unfolding AsksSame
Respects-equal {K} eq asked is_in equal = record {
  asks = λ a b e label. ap (λ (key : K). asked key label) (equal a b e);
  inside = λ a b e inside. subst (λ (key : K). IsTrue (is_in key)) (equal a b e) inside;
}

-- one reference
pub one-stays_in : (old new : Contents) (r : NodeRef) → Keeps old new → IsTrue (is_valid old r) → IsTrue (is_valid new r)
one-stays_in old new r keeps inside = is_valid-IsValid new r (keeps.valid r (is_valid-true old r inside))

pub one-asks_still : (view : Label → Label) (old new : Contents) (r : NodeRef) → Keeps old new →
    IsTrue (is_valid old r) → AsksSame (λ label. leaves_of new (r ∷ []) (view label))
    (λ label. leaves_of old (r ∷ []) (view label))
unfolding AsksSame
one-asks_still view old new r keeps inside = λ label. ap (λ (state : ℕ). state ∷ []) (keeps.states r (view label) (is_valid-true old r inside))

-- references
pub leaves-still : (old new : Contents) → Keeps old new → (rs : List NodeRef) →
    IsTrue (list_all (is_valid old) rs) → AsksSame (λ label. leaves_of new rs label) (λ label. leaves_of old rs label)
unfolding AsksSame
leaves-still old new keeps rs inside = λ label. leaves-kept old new keeps rs label inside
