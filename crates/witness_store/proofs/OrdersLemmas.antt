-- The places that wait, and the nodes that follow them.
use Rattle.std.proofs.Common.{◌≡◌, ℕ, zero, suc, ◌<◌, List, [], ◌∷◌, ◌++◌, length, slice_get, Option, Some, None, IfSome, refl, sym, ap, ◌∙◌, arith}
use Rattle.std.proofs.Common.{append_assoc, append-nil}
use Rattle.std.specs.Prelude.{option_to_list}
use Rattle.std.specs.Option.{option_map_or}
use Rattle.ws2s_core.specs.declared.label_tree.TreeNode.{TreeNode}
use Rattle.ws2s_core.specs.LabelTrees.{IsTree}
use Rattle.witness_store.specs.Orders.{places_below, preorder_of, children_last_first, roots_of}

module _ (nodes : List TreeNode) where
  -- the nodes from a place on, and those from the places that wait, the last one first
  abbrev pub below : ℕ → List ℕ
  below k = places_below nodes (suc k) k

  abbrev pub waiting_for : List ℕ → List ℕ
  waiting_for [] = []
  waiting_for (k ∷ waiting) = waiting_for waiting ++ below k

  pub waiting-push : (waiting : List ℕ) (k : ℕ) → waiting_for (waiting ++ k ∷ []) ≡ below k ++ waiting_for waiting
  waiting-push [] k = sym (append-nil (below k))
  waiting-push (j ∷ waiting) k = ap (λ l. l ++ below j) (waiting-push waiting k) ∙ append_assoc (below k) (waiting_for waiting) (below j)

  waiting-maybe : (waiting : List ℕ) (o : Option ℕ) → waiting_for (waiting ++ option_to_list o) ≡ option_map_or below o [] ++ waiting_for waiting
  waiting-maybe waiting None = ap waiting_for (append-nil waiting)
  waiting-maybe waiting (Some k) = waiting-push waiting k

  module _ (tree : IsTree nodes) where
    -- more levels than there are make no difference
    deep : (n m k : ℕ) → k < n → k < m → places_below nodes n k ≡ places_below nodes m k
    deep zero m k less also = absurd (omega arith)
    deep (suc n) zero k less also = absurd (omega arith)
    deep (suc n) (suc m) k less also = by (slice_get nodes k) refl (λ j below. deep n m j (omega arith) (omega arith))
      where
        child : (o : Option ℕ) → IfSome o (λ j. j < k) → ((j : ℕ) → j < k → places_below nodes n j ≡ places_below nodes m j) →
            option_map_or (places_below nodes n) o [] ≡ option_map_or (places_below nodes m) o []
        child None inside each = refl
        child (Some j) inside each = each j inside

        by : (o : Option TreeNode) → slice_get nodes k ≡ o → ((j : ℕ) → j < k → places_below nodes n j ≡ places_below nodes m j) →
            k ∷ option_map_or (λ node. option_map_or (places_below nodes n) node.left [] ++ option_map_or (places_below nodes n) node.right []) o []
            ≡ k ∷ option_map_or (λ node. option_map_or (places_below nodes m) node.left [] ++ option_map_or (places_below nodes m) node.right []) o []
        by None at each = refl
        by (Some node) at each =
            let left = child node.left (tree.left_before k node at) each in
            let right = child node.right (tree.right_before k node at) each in
            λ i. k ∷ (left i ++ right i)

    child-below : (k : ℕ) (o : Option ℕ) → IfSome o (λ j. j < k) → option_map_or (places_below nodes k) o [] ≡ option_map_or below o []
    child-below k None inside = refl
    child-below k (Some j) inside = deep k (suc j) j inside (omega arith)

    -- a place that is taken off gives its node, and its children wait instead
    pub waiting-next : (waiting : List ℕ) (k : ℕ) →
        waiting_for (waiting ++ k ∷ []) ≡ k ∷ waiting_for (waiting ++ children_last_first (slice_get nodes k))
    waiting-next waiting k = waiting-push waiting k ∙ ap (λ l. k ∷ l) (by (slice_get nodes k) refl)
      where
        by : (o : Option TreeNode) → slice_get nodes k ≡ o →
            option_map_or (λ node. option_map_or (places_below nodes k) node.left [] ++ option_map_or (places_below nodes k) node.right []) o [] ++
            waiting_for waiting
            ≡ waiting_for (waiting ++ children_last_first o)
        by None at = sym (ap waiting_for (append-nil waiting))
        by (Some node) at =
            ap (λ l. (l ++ option_map_or (places_below nodes k) node.right []) ++ waiting_for waiting) (child-below k node.left (tree.left_before k node at))
            ∙ ap (λ l. (option_map_or below node.left [] ++ l) ++ waiting_for waiting) (child-below k node.right (tree.right_before k node at))
            ∙ append_assoc (option_map_or below node.left []) (option_map_or below node.right []) (waiting_for waiting)
            ∙ ap (λ l. option_map_or below node.left [] ++ l) (sym (waiting-maybe waiting node.right))
            ∙ sym (waiting-maybe (waiting ++ option_to_list node.right) node.left)
            ∙ ap waiting_for (append_assoc waiting (option_to_list node.right) (option_to_list node.left))

pub waiting-root : (nodes : List TreeNode) → waiting_for nodes (roots_of nodes) ≡ preorder_of nodes
waiting-root [] = refl
waiting-root (node ∷ nodes) = refl

-- ---- one place taken off

module _ (nodes : List TreeNode) (tree : IsTree nodes) (waiting rest next : List ℕ) (k : ℕ) (taken : waiting ≡ rest ++ k ∷ [])
    (put : next ≡ rest ++ children_last_first (slice_get nodes k)) where
  one_taken : waiting_for nodes waiting ≡ k ∷ waiting_for nodes next
  one_taken = ap (waiting_for nodes) taken ∙ waiting-next nodes tree rest k ∙ ap (λ l. k ∷ waiting_for nodes l) (sym put)

  pub waiting-kept : (places more all : List ℕ) → more ≡ places ++ k ∷ [] → places ++ waiting_for nodes waiting ≡ all → more ++ waiting_for nodes next ≡ all
  waiting-kept places more all pushed is =
      ap (λ l. l ++ waiting_for nodes next) pushed ∙ append_assoc places (k ∷ []) (waiting_for nodes next) ∙ ap (λ l. places ++ l) (sym one_taken) ∙ is

  pub waiting-less : length (waiting_for nodes next) < length (waiting_for nodes waiting)
  waiting-less = let long : length (waiting_for nodes waiting) ≡ suc (length (waiting_for nodes next)) = ap length one_taken in omega arith
