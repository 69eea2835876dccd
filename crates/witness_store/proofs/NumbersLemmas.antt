-- The numbers of the cells, by the places of nodes.
use Rattle.std.proofs.Common.{◌≡◌, ◌≢◌, ◌⊎◌, ℕ, zero, suc, ◌+◌, ◌<◌, Bool, true, false, cond, eqb, inl, inr, List, [], ◌∷◌, ◌++◌, length, take, slice_get}
use Rattle.std.proofs.Common.{Option, Some, None, refl, sym, ap, ◌∙◌, subst, arith, eq-eqb, ne_eqb}
use Rattle.std.specs.Prelude.{slice_set}
use Rattle.std.specs.Option.{option_map_or}
use Rattle.std.proofs.lemmas.Bool.{cases_eq}
use Rattle.gta_theory.specs.Assignments.{Position, is_same_position}
use Rattle.ws2s_core.specs.declared.label_tree.TreeNode.{TreeNode}
use Rattle.ws2s_core.specs.LabelTrees.{IsTree, assignment_of}
use Rattle.ws2s_core.proofs.ExamplesLemmas.{same_position-true, same_position-refl}
use Rattle.ws2s_theory.specs.Trees.{StandsAt}
use Rattle.store_core.specs.declared.ids.CellId.{CellId}
use Rattle.store_core.specs.Tables.{TypeEntry}
use Rattle.tree_store.specs.Decoded.{Standing, numbered, first_where}
use Rattle.tree_store.proofs.CellsLemmas.{one_place}
use Rattle.witness_store.specs.declared.cells.Found.{Found}
use Rattle.witness_store.specs.Finding.{IsFoundAs, AreFoundAs, AreFound, number_of, AreNumbers}
use Rattle.witness_store.specs.Reading.{AreRead}
use Rattle.witness_store.proofs.ListsLemmas.{take-next, length-front}
use Rattle.witness_store.proofs.NamedLemmas.{one-position, one-node}
use Rattle.witness_store.proofs.ReadingLemmas.{inside}

-- ---- one found more

number_of-push : (k n : ℕ) (found : List Found) (f : Found) →
    number_of k n (found ++ f ∷ []) ≡ cond (eqb f.node k) (Some (numbered (n + length found))) (number_of k n found)
number_of-push k n [] f = let none : n ≡ n + 0 = omega arith in ap (λ m. cond (eqb f.node k) (Some (numbered m)) None) none
number_of-push k n (g ∷ found) f =
    ap (λ o. option_map_or (λ c. Some c) o (cond (eqb g.node k) (Some (numbered n)) None)) (number_of-push k (suc n) found f) ∙ by (eqb f.node k)
  where
    by : (b : Bool) → option_map_or (λ c. Some c) (cond b (Some (numbered (suc n + length found))) (number_of k (suc n) found))
        (cond (eqb g.node k) (Some (numbered n)) None)
        ≡ cond b (Some (numbered (n + suc (length found))))
        (option_map_or (λ c. Some c) (number_of k (suc n) found) (cond (eqb g.node k) (Some (numbered n)) None))
    by true = let next : suc n + length found ≡ n + suc (length found) = omega arith in ap (λ m. Some (numbered m)) next
    by false = refl

get-set : {X : Type 0} (xs : List X) (i : ℕ) (x : X) → i < length xs → slice_get (slice_set xs i x) i ≡ Some x
get-set [] i x within = absurd (omega arith)
get-set (y ∷ ys) zero x within = refl
get-set (y ∷ ys) (suc i) x within = get-set ys i x (omega arith)

get-set_other : {X : Type 0} (xs : List X) (i t : ℕ) (x : X) → t ≢ i → slice_get (slice_set xs i x) t ≡ slice_get xs t
get-set_other [] i t x other = refl
get-set_other (y ∷ ys) zero zero x other = absurd (other refl)
get-set_other (y ∷ ys) zero (suc t) x other = refl
get-set_other (y ∷ ys) (suc i) zero x other = refl
get-set_other (y ∷ ys) (suc i) (suc t) x other = get-set_other ys i t x (λ same. other (ap suc same))

length-set_at : {X : Type 0} (xs : List X) (i : ℕ) (x : X) → length (slice_set xs i x) ≡ length xs
length-set_at [] i x = refl
length-set_at (y ∷ ys) zero x = refl
length-set_at (y ∷ ys) (suc i) x = ap suc (length-set_at ys i x)

-- the number of one more found is set
pub AreNumbers-next : (found : List Found) (count i next : ℕ) (f : Found) (numbers : List (Option CellId)) → slice_get found i ≡ Some f → f.node < count →
    next ≡ suc i → AreNumbers (take i found) count numbers → AreNumbers (take (i + 1) found) count (slice_set numbers f.node (Some (numbered next)))
AreNumbers-next found count i next f numbers at within is so_far = record {
  long = length-set_at numbers f.node (Some (numbered next)) ∙ so_far.long;
  each = λ k less.
      subst (λ (l : List Found). slice_get (slice_set numbers f.node (Some (numbered next))) k ≡ Some (number_of k 1 l)) (sym (take-next found i f at))
      (each k less (cases_eq f.node k) ∙ ap (λ o. Some o) (sym (number_of-push k 1 (take i found) f)));
}
  where
    number : next ≡ 1 + length (take i found)
    number = let long = length-front found i f at in omega arith

    each : (k : ℕ) → k < count → (f.node ≡ k) ⊎ (f.node ≢ k) →
        slice_get (slice_set numbers f.node (Some (numbered next))) k
        ≡ Some (cond (eqb f.node k) (Some (numbered (1 + length (take i found)))) (number_of k 1 (take i found)))
    each k less (inl same) =
        let long = so_far.long in
        ap (slice_get (slice_set numbers f.node (Some (numbered next)))) (sym same) ∙ get-set numbers f.node (Some (numbered next)) (omega arith)
        ∙ ap (λ n. Some (Some (numbered n))) number
        ∙ ap (λ b. Some (cond b (Some (numbered (1 + length (take i found)))) (number_of k 1 (take i found)))) (sym (eq-eqb f.node k same))
    each k less (inr other) =
        get-set_other numbers f.node k (Some (numbered next)) (λ e. other (sym e)) ∙ so_far.each k less
        ∙ ap (λ b. Some (cond b (Some (numbered (1 + length (take i found)))) (number_of k 1 (take i found)))) (sym (ne_eqb f.node k other))

-- ---- the first cell at a position

pub same_position-false : (p q : Position) → p ≢ q → is_same_position p q ≡ false
same_position-false p q apart = by (is_same_position p q) refl
  where
    by : (b : Bool) → is_same_position p q ≡ b → is_same_position p q ≡ false
    by true is = absurd (apart (same_position-true p q is))
    by false is = is

pub none-where : (test : Position → Bool) (n : ℕ) (cells : List Standing) → ((i : ℕ) (x : Standing) → slice_get cells i ≡ Some x → test x.at ≡ false) →
    first_where test n cells ≡ None
none-where test n [] none = refl
none-where test n (x ∷ cells) none =
    ap (λ b. cond b (Some (numbered n)) (first_where test (suc n) cells)) (none 0 x refl) ∙ none-where test (suc n) cells (λ i y at. none (suc i) y at)

module _ (nodes : List TreeNode) (tree : IsTree nodes) where
  -- the number at a node is that of the cell at its position
  number-first : (found : List Found) (cells : List Standing) → AreFoundAs nodes found cells →
      ((i j : ℕ) (x y : Standing) → slice_get cells i ≡ Some x → slice_get cells j ≡ Some y → x.at ≡ y.at → i ≡ j) →
      (k : ℕ) (p : Position) → StandsAt nodes k p → (n : ℕ) → number_of k n found ≡ first_where (is_same_position p) n cells
  number-first [] [] are apart k p above n = refl
  number-first [] (x ∷ cells) are apart k p above n = let count = are.count in absurd (omega arith)
  number-first (f ∷ found) [] are apart k p above n = let count = are.count in absurd (omega arith)
  number-first (f ∷ found) (x ∷ cells) are apart k p above n =
      by (number-first found cells (record { count = (let count = are.count in omega arith); each = λ i g y at also. are.each (suc i) g y at also })
      (λ i j y z at also same. let both : suc i ≡ suc j = apart (suc i) (suc j) y z at also same in omega arith) k p above (suc n)) (cases_eq f.node k)
    where
      here : IsFoundAs nodes f x
      here = are.each 0 f x refl refl

      by : number_of k (suc n) found ≡ first_where (is_same_position p) (suc n) cells → (f.node ≡ k) ⊎ (f.node ≢ k) →
          number_of k n (f ∷ found) ≡ first_where (is_same_position p) n (x ∷ cells)
      by rest (inl same) =
          let position : p ≡ x.at = one-position nodes tree k p x.at above (subst (λ m. StandsAt nodes m x.at) same here.node) in
          let none : first_where (is_same_position p) (suc n) cells ≡ None =
          none-where (is_same_position p) (suc n) cells (λ i y at. same_position-false p y.at (λ e.
          let both : 0 ≡ suc i = apart 0 (suc i) x y refl at (sym position ∙ e) in absurd (omega arith))) in
          ap (λ o. option_map_or (λ c. Some c) o (cond (eqb f.node k) (Some (numbered n)) None)) (rest ∙ none)
          ∙ ap (λ b. cond b (Some (numbered n)) None) (eq-eqb f.node k same)
          ∙ ap (λ b. cond b (Some (numbered n)) (first_where (is_same_position p) (suc n) cells))
          (sym (ap (is_same_position p) (sym position) ∙ same_position-refl p))
      by rest (inr other) =
          let elsewhere : p ≢ x.at = λ e. other (one-node nodes f.node k p (subst (StandsAt nodes f.node) (sym e) here.node) above) in
          ap (λ b. option_map_or (λ c. Some c) (number_of k (suc n) found) (cond b (Some (numbered n)) None)) (ne_eqb f.node k other)
          ∙ flat (number_of k (suc n) found) ∙ rest
          ∙ ap (λ b. cond b (Some (numbered n)) (first_where (is_same_position p) (suc n) cells)) (sym (same_position-false p x.at elsewhere))
        where
          flat : (o : Option CellId) → option_map_or (λ c. Some c) o None ≡ o
          flat None = refl
          flat (Some c) = refl

  pub AreRead-found : (types : List TypeEntry) (found : List Found) (cells : List Standing) (numbers : List (Option CellId)) → AreFound types nodes found
      cells →
      AreNumbers found (length nodes) numbers → AreRead types nodes cells numbers
  AreRead-found types found cells numbers are by_place = record {
    tree = tree;
    cells_are = are.cells_are;
    numbers_are = λ k p above.
        by_place.each k (inside nodes tree k p above)
        ∙ ap (λ o. Some o) (number-first found cells are.found_as (one_place types (assignment_of nodes) cells are.cells_are) k p above 1);
  }
