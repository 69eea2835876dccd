-- The laws of lists of references as keys.
use Rattle.std.specs.Prelude.{◌≡◌, ℕ, Bool, true, false, List, [], ◌∷◌, ◌++◌, take, drop, Option, Some, None, IsTrue, nat_eq}
use Rattle.std.specs.List.{list_all}
use Rattle.std.specs.Cmp.Lexicographic.{pointwise}
use Rattle.std.proofs.Common.{◌∙◌, ap, refl, subst, zero, suc}
use Rattle.std.proofs.lemmas.Bool.{false≢true}
use Rattle.bdd_nodes.specs.declared.node_ref.NodeRef.{NodeRef}
use Rattle.bdd_nodes.specs.Shelf.{Contents}
use Rattle.bdd_nodes.specs.Changes.{Keeps, is_valid}
use Rattle.labels.specs.Labels.{with_track}
use Rattle.bdd_walk.specs.Asked.{leaves_of}
use Rattle.bdd_walk.specs.Stands.{Asking, AsksSame}
use Rattle.bdd_walk.specs.Waits.{Respects}
use Rattle.bdd_walk.specs.Sides.{asked_by}
use Rattle.bdd_walk.specs.Laws.{and-left, and-right, and-both, same_word, leaves-kept}

-- the front and the rest of valid references are valid
pub valid-take : (shelf : Contents) (n : ℕ) (rs : List NodeRef) → IsTrue (list_all (is_valid shelf) rs) → IsTrue (list_all (is_valid shelf) (take n rs))
valid-take shelf zero rs valid = refl
valid-take shelf (suc n) [] valid = refl
valid-take shelf (suc n) (r ∷ rs) valid =
    and-both (is_valid shelf r) (list_all (is_valid shelf) (take n rs)) (and-left (is_valid shelf r) (list_all (is_valid shelf) rs) valid)
    (valid-take shelf n rs (and-right (is_valid shelf r) (list_all (is_valid shelf) rs) valid))

pub valid-drop : (shelf : Contents) (n : ℕ) (rs : List NodeRef) → IsTrue (list_all (is_valid shelf) rs) → IsTrue (list_all (is_valid shelf) (drop n rs))
valid-drop shelf zero rs valid = valid
valid-drop shelf (suc n) [] valid = refl
valid-drop shelf (suc n) (r ∷ rs) valid = valid-drop shelf n rs (and-right (is_valid shelf r) (list_all (is_valid shelf) rs) valid)

-- lists that a test calls equal are equal
pub same_list : (xs ys : List NodeRef) → pointwise (λ a b. nat_eq a.word b.word) xs ys ≡ true → xs ≡ ys
same_list [] [] e = refl
same_list [] (y ∷ ys) e = absurd (false≢true e)
same_list (x ∷ xs) [] e = absurd (false≢true e)
same_list (x ∷ xs) (y ∷ ys) e =
    ap (λ (r : NodeRef). r ∷ xs) (same_word x y (and-left (nat_eq x.word y.word) (pointwise (λ a b. nat_eq a.word b.word) xs ys) e))
    ∙ ap (λ (rs : List NodeRef). y ∷ rs) (same_list xs ys (and-right (nat_eq x.word y.word) (pointwise (λ a b. nat_eq a.word b.word) xs ys) e))

pub Respects-lists : {K : Type 0} (eq : K → K → Bool) (refs : K → List NodeRef) (asked : List NodeRef → Asking) (is_in : List NodeRef → Bool) →
    ((a b : K) → eq a b ≡ true → refs a ≡ refs b) → Respects eq (λ key. asked (refs key)) (λ key. is_in (refs key))
unfolding AsksSame
Respects-lists {K} eq refs asked is_in equal = record {
  asks = λ a b e label. ap (λ (rs : List NodeRef). asked rs label) (equal a b e);
  inside = λ a b e inside. subst (λ (rs : List NodeRef). IsTrue (is_in rs)) (equal a b e) inside;
}

pub many-asks_still : (old new : Contents) → Keeps old new → (dropped : Option ℕ) (half : ℕ) (rs : List NodeRef) →
    IsTrue (list_all (is_valid old) rs) →
    AsksSame (λ label. asked_by new dropped half rs label) (λ label. asked_by old dropped half rs label)
unfolding AsksSame
many-asks_still old new keeps None half rs valid = λ label. leaves-kept old new keeps rs label valid
many-asks_still old new keeps (Some t) half rs valid = λ label.
    ap (λ (states : List ℕ). states ++ leaves_of new (drop half rs) (with_track label t true))
    (leaves-kept old new keeps (take half rs) (with_track label t false) (valid-take old half rs valid))
    ∙ ap (λ (states : List ℕ). leaves_of old (take half rs) (with_track label t false) ++ states)
    (leaves-kept old new keeps (drop half rs) (with_track label t true) (valid-drop old half rs valid))
