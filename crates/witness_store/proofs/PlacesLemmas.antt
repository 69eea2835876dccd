-- What stands at positions, by the places of their nodes.
use Rattle.std.proofs.Common.{◌≡◌, ℕ, ◌+◌, true, false, IsTrue, List, [], ◌∷◌, ◌++◌, length, slice_get, Option, Some, None, refl, sym, ap, ◌∙◌, subst, arith}
use Rattle.std.proofs.Common.{append_assoc, append-nil}
use Rattle.std.specs.Option.{option_map_or, option_and_then}
use Rattle.std.proofs.lemmas.Bool.{false≢true}
use Rattle.store_core.proofs.FittingLemmas.{IsSomeAnd-at}
use Rattle.gta_theory.specs.Assignments.{Position, Assignment, is_same_position}
use Rattle.ws2s_core.specs.declared.track.Track.{Track}
use Rattle.ws2s_core.specs.declared.label_tree.TreeNode.{TreeNode}
use Rattle.ws2s_core.specs.LabelTrees.{IsTree, assignment_of}
use Rattle.ws2s_theory.specs.Trees.{at_root, at_left, at_right, label_of, child_at, last_place}
use Rattle.ws2s_theory.proofs.TreesLemmas.{left-at, right-at, below-position}
use Rattle.store_core.specs.declared.ids.CellId.{CellId}
use Rattle.store_core.specs.Tables.{TypeEntry}
use Rattle.tree_encode.specs.Tracks.{variant_track}
use Rattle.tree_store.specs.Decoded.{Standing, first_where, is_on}
use Rattle.witness_store.specs.Reading.{left_of_node, right_of_node, has_track, number_in, IsNodeAt, AreRead}
use Rattle.witness_store.proofs.ListsLemmas.{present}
use Rattle.witness_store.proofs.NumbersLemmas.{same_position-false, none-where}
use Rattle.witness_store.proofs.ReadingLemmas.{inside, tracks-at}

module _ (nodes : List TreeNode) (tree : IsTree nodes) where
  abbrev a : Assignment
  a = assignment_of nodes

  pub left-node : (p : Position) (place : Option ℕ) → IsNodeAt nodes p place → IsNodeAt nodes (p ++ false ∷ []) (left_of_node nodes place)
  left-node p None none = λ t q. ap (a t) (append_assoc p (false ∷ []) q) ∙ none t (false ∷ q)
  left-node p (Some k) above =
      let (y, at) = present nodes k (inside nodes tree k p above) in
      subst (IsNodeAt nodes (p ++ false ∷ [])) (sym (ap (λ o. option_and_then (λ (z : TreeNode). z.left) o) at)) (by y at y.left refl)
    where
      by : (y : TreeNode) → slice_get nodes k ≡ Some y → (o : Option ℕ) → y.left ≡ o → IsNodeAt nodes (p ++ false ∷ []) o
      by y at None is = λ t q.
          ap (a t) (append_assoc p (false ∷ []) q) ∙ below-position nodes tree k p above t (false ∷ q) ∙ (λ i. left-at nodes k y tree at i t q)
          ∙ (λ i. child_at nodes (is i) t q)
      by y at (Some j) is = at_left k j y p above at is

  pub right-node : (p : Position) (place : Option ℕ) → IsNodeAt nodes p place → IsNodeAt nodes (p ++ true ∷ []) (right_of_node nodes place)
  right-node p None none = λ t q. ap (a t) (append_assoc p (true ∷ []) q) ∙ none t (true ∷ q)
  right-node p (Some k) above =
      let (y, at) = present nodes k (inside nodes tree k p above) in
      subst (IsNodeAt nodes (p ++ true ∷ [])) (sym (ap (λ o. option_and_then (λ (z : TreeNode). z.right) o) at)) (by y at y.right refl)
    where
      by : (y : TreeNode) → slice_get nodes k ≡ Some y → (o : Option ℕ) → y.right ≡ o → IsNodeAt nodes (p ++ true ∷ []) o
      by y at None is = λ t q.
          ap (a t) (append_assoc p (true ∷ []) q) ∙ below-position nodes tree k p above t (true ∷ q) ∙ (λ i. right-at nodes k y tree at i t q)
          ∙ (λ i. child_at nodes (is i) t q)
      by y at (Some j) is = at_right k j y p above at is

  -- the position is on a track where its node has it
  pub on-node : (p : Position) (place : Option ℕ) (track : Option Track) → IsNodeAt nodes p place → has_track nodes place track ≡ is_on a track p
  on-node p None None none = refl
  on-node p None (Some t) none = sym (none t.0 []) ∙ ap (a t.0) (append-nil p)
  on-node p (Some k) None above = refl
  on-node p (Some k) (Some t) above =
      let (y, at) = present nodes k (inside nodes tree k p above) in
      ap (λ o. option_map_or (λ (z : TreeNode). label_of z.tracks t.0) o false) at ∙ sym (tracks-at nodes tree k p y above at t.0)

-- the root
pub root-node : (nodes : List TreeNode) → IsNodeAt nodes [] (last_place 0 (length nodes))
root-node [] = λ t q. refl
root-node (x ∷ xs) = at_root (0 + length xs) (omega arith)

-- the cell at a position, by its number
pub cell-number : (types : List TypeEntry) (nodes : List TreeNode) (cells : List Standing) (numbers : List (Option CellId)) → AreRead types nodes cells
    numbers →
    (q : Position) (place : Option ℕ) → IsNodeAt nodes q place → number_in numbers place ≡ first_where (is_same_position q) 1 cells
cell-number types nodes cells numbers are q None none =
    sym (none-where (is_same_position q) 1 cells (λ i x at. same_position-false q x.at (λ e.
    let (t, track, on) = IsSomeAnd-at (variant_track types x.variant) (λ t. IsTrue (assignment_of nodes t.0 x.at)) (are.cells_are.each i x at) in
    false≢true (sym (none t.0 []) ∙ ap (assignment_of nodes t.0) (append-nil q ∙ e) ∙ on))))
cell-number types nodes cells numbers are q (Some k) above = ap (λ o. option_and_then (λ (c : Option CellId). c) o) (are.numbers_are k q above)
