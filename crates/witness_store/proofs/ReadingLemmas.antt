-- What the tracks of a node say of the position at which it stands.
use Rattle.std.proofs.Common.{◌≡◌, ℕ, suc, ◌+◌, ◌<◌, true, false, List, [], ◌∷◌, ◌++◌, length, slice_get, Option, Some, None, refl, sym, ap, ◌∙◌, subst, arith}
use Rattle.std.proofs.Common.{append_assoc, append-nil}
use Rattle.std.proofs.lemmas.Bool.{false≢true}
use Rattle.std.proofs.lemmas.Option.{slice_get_within}
use Rattle.store_core.proofs.FittingLemmas.{IfSome-at}
use Rattle.gta_theory.specs.Assignments.{Position}
use Rattle.ws2s_core.specs.declared.label_tree.TreeNode.{TreeNode}
use Rattle.ws2s_core.specs.LabelTrees.{IsTree, assignment_of}
use Rattle.ws2s_theory.specs.Trees.{StandsAt, at_root, at_left, at_right, assignment_at, child_at, label_of, last_place}
use Rattle.witness_store.proofs.ListsLemmas.{present}
use Rattle.ws2s_theory.proofs.TreesLemmas.{label-at, left-at, right-at, root-at, below-position}

module _ (nodes : List TreeNode) (tree : IsTree nodes) where
  pub inside : (k : ℕ) (p : Position) → StandsAt nodes k p → k < length nodes
  inside _ _ (at_root k last) = omega arith
  inside _ _ (at_left k j y p above at child) =
      let here = slice_get_within nodes k y at in
      let before = IfSome-at y.left (λ c. c < k) j child (tree.left_before k y at) in omega arith
  inside _ _ (at_right k j y p above at child) =
      let here = slice_get_within nodes k y at in
      let before = IfSome-at y.right (λ c. c < k) j child (tree.right_before k y at) in omega arith

  -- the node that stands at the position has the tracks that hold it
  pub tracks-at : (k : ℕ) (p : Position) (x : TreeNode) → StandsAt nodes k p → slice_get nodes k ≡ Some x → (t : ℕ) → assignment_of nodes t p ≡ label_of
      x.tracks t
  tracks-at k p x above at t =
      ap (assignment_of nodes t) (sym (append-nil p)) ∙ below-position nodes tree k p above t [] ∙ (λ i. label-at nodes k x at i t)

  no_child : (t : ℕ) (q : Position) → child_at nodes None t q ≡ true → ⊥
  no_child t q e = false≢true e

  left_found : (q : Position) (k : ℕ) (p : Position) (t : ℕ) (x : TreeNode) → StandsAt nodes k p → slice_get nodes k ≡ Some x → (o : Option ℕ) → x.left ≡ o →
      child_at nodes o t q ≡ true → ((j : ℕ) → StandsAt nodes j (p ++ false ∷ []) → assignment_at nodes j t q ≡ true → (m : ℕ) × StandsAt nodes m
      ((p ++ false ∷ []) ++ q)) →
      (j : ℕ) × StandsAt nodes j (p ++ (false ∷ q))
  left_found q k p t x above at None is on rest = absurd (no_child t q on)
  left_found q k p t x above at (Some j) is on rest =
      let found = rest j (at_left k j x p above at is) on in (found.0, subst (StandsAt nodes found.0) (append_assoc p (false ∷ []) q) found.1)

  right_found : (q : Position) (k : ℕ) (p : Position) (t : ℕ) (x : TreeNode) → StandsAt nodes k p → slice_get nodes k ≡ Some x → (o : Option ℕ) → x.right ≡ o →
      child_at nodes o t q ≡ true → ((j : ℕ) → StandsAt nodes j (p ++ true ∷ []) → assignment_at nodes j t q ≡ true → (m : ℕ) × StandsAt nodes m
      ((p ++ true ∷ []) ++ q)) →
      (j : ℕ) × StandsAt nodes j (p ++ (true ∷ q))
  right_found q k p t x above at None is on rest = absurd (no_child t q on)
  right_found q k p t x above at (Some j) is on rest =
      let found = rest j (at_right k j x p above at is) on in (found.0, subst (StandsAt nodes found.0) (append_assoc p (true ∷ []) q) found.1)

  found_below : (q : Position) (k : ℕ) (p : Position) (t : ℕ) → StandsAt nodes k p → assignment_at nodes k t q ≡ true → (j : ℕ) × StandsAt nodes j (p ++ q)
  found_below [] k p t above on = (k, subst (StandsAt nodes k) (sym (append-nil p)) above)
  found_below (false ∷ q) k p t above on =
      let (x, at) = present nodes k (inside k p above) in
      let half_on : child_at nodes x.left t q ≡ true = sym (λ i. left-at nodes k x tree at i t q) ∙ on in
      left_found q k p t x above at x.left refl half_on (λ j c h. found_below q j (p ++ false ∷ []) t c h)
  found_below (true ∷ q) k p t above on =
      let (x, at) = present nodes k (inside k p above) in
      let half_on : child_at nodes x.right t q ≡ true = sym (λ i. right-at nodes k x tree at i t q) ∙ on in
      right_found q k p t x above at x.right refl half_on (λ j c h. found_below q j (p ++ true ∷ []) t c h)

  pub node-on : (t : ℕ) (p : Position) → assignment_of nodes t p ≡ true → (k : ℕ) × StandsAt nodes k p
  node-on t p on = by nodes refl
    where
      by : (xs : List TreeNode) → nodes ≡ xs → (k : ℕ) × StandsAt nodes k p
      by [] is = absurd (false≢true (ap (λ l. assignment_of l t p) (sym is) ∙ on))
      by (x ∷ xs) is =
          let last : suc (length xs) ≡ length nodes = sym (ap length is) in
          let place : last_place 0 (length nodes) ≡ Some (length xs) = ap (last_place 0) (sym last) ∙ ap (λ n. Some n) (zero_more (length xs)) in
          found_below p (length xs) [] t (at_root (length xs) last) (sym ((λ i. root-at nodes i t p) ∙ (λ i. child_at nodes (place i) t p)) ∙ on)
        where
          zero_more : (n : ℕ) → 0 + n ≡ n
          zero_more n = omega arith
