-- The nodes of a tree in preorder, and where they stand.
use Rattle.std.proofs.Common.{◌≡◌, ◌⊎◌, ℕ, zero, suc, ◌+◌, ◌<◌, Bool, true, false, inl, inr, List, [], ◌∷◌, ◌++◌, length, slice_get, Option, Some, None, refl}
use Rattle.std.proofs.Common.{sym, ap, ◌∙◌, subst, arith, append_assoc, append-nil}
use Rattle.std.specs.Option.{option_map_or}
use Rattle.std.proofs.lemmas.Option.{slice_get_within, same_Some}
use Rattle.store_core.proofs.FittingLemmas.{IfSome-at}
use Rattle.gta_theory.specs.Assignments.{Position}
use Rattle.ws2s_core.specs.declared.label_tree.TreeNode.{TreeNode}
use Rattle.ws2s_core.specs.LabelTrees.{IsTree}
use Rattle.ws2s_theory.specs.Trees.{StandsAt, at_root, at_left, at_right}
use Rattle.tree_encode.proofs.TracksLemmas.{in_first, in_second}
use Rattle.tree_store.specs.Preorder.{ComesBefore}
use Rattle.witness_store.specs.Orders.{places_below, preorder_of}
use Rattle.witness_store.proofs.ListsLemmas.{appended}

-- ---- pairs of a place and a position

pub record Node : Type 0 where
  pub place : ℕ
  pub at : Position

abbrev pub node : ℕ → Position → Node
node k p = record { place = k; at = p }

-- the places of the nodes
abbrev pub places_of : List Node → List ℕ
places_of [] = []
places_of (x ∷ xs) = x.place ∷ places_of xs

InOrder : List Node → Type 0
InOrder xs = (i j : ℕ) (x y : Node) → i < j → slice_get xs i ≡ Some x → slice_get xs j ≡ Some y → ComesBefore x.at y.at

InOrder-append : (xs ys : List Node) → InOrder xs → InOrder ys →
    ((i j : ℕ) (x y : Node) → slice_get xs i ≡ Some x → slice_get ys j ≡ Some y → ComesBefore x.at y.at) → InOrder (xs ++ ys)
unfolding InOrder
InOrder-append xs ys of_xs of_ys between i j x y less at_i at_j = by (appended xs ys i x at_i) (appended xs ys j y at_j)
  where
    by : (slice_get xs i ≡ Some x) ⊎ ((k : ℕ) × (i ≡ length xs + k) × (slice_get ys k ≡ Some x)) →
        (slice_get xs j ≡ Some y) ⊎ ((k : ℕ) × (j ≡ length xs + k) × (slice_get ys k ≡ Some y)) → ComesBefore x.at y.at
    by (inl one) (inl other) = of_xs i j x y less one other
    by (inl one) (inr other) = between i other.0 x y one other.2
    by (inr one) (inr other) = let e = one.1 in let h = other.1 in of_ys one.0 other.0 x y (omega arith) one.2 other.2
    by (inr one) (inl other) = let e = one.1 in let inside = slice_get_within xs j y other in absurd (omega arith)

InOrder-first : (x : Node) (xs : List Node) → InOrder xs → ((j : ℕ) (y : Node) → slice_get xs j ≡ Some y → ComesBefore x.at y.at) → InOrder (x ∷ xs)
unfolding InOrder
InOrder-first x xs of_xs before zero zero y z less at_i at_j = absurd (omega arith)
InOrder-first x xs of_xs before zero (suc j) y z less at_i at_j = subst (λ (u : Node). ComesBefore u.at z.at) (same_Some x y at_i) (before j z at_j)
InOrder-first x xs of_xs before (suc i) zero y z less at_i at_j = absurd (omega arith)
InOrder-first x xs of_xs before (suc i) (suc j) y z less at_i at_j = of_xs i j y z (omega arith) at_i at_j

further : (p u v : Position) → ComesBefore u v → ComesBefore (p ++ u) (p ++ v)
further [] u v h = h
further (false ∷ p) u v h = further p u v h
further (true ∷ p) u v h = further p u v h

module _ (nodes : List TreeNode) where
  -- the nodes from a place on, with their positions
  abbrev pub nodes_below : ℕ → ℕ → Position → List Node
  nodes_below zero k p = []
  nodes_below (suc n) k p = node k p ∷ option_map_or (λ (x : TreeNode). option_map_or (λ j. nodes_below n j (p ++ false ∷ [])) x.left []
      ++ option_map_or (λ j. nodes_below n j (p ++ true ∷ [])) x.right []) (slice_get nodes k) []

  abbrev child_below : ℕ → Bool → Position → Option ℕ → List Node
  child_below n b p o = option_map_or (λ j. nodes_below n j (p ++ b ∷ [])) o []

  abbrev both_below : ℕ → Position → Option TreeNode → List Node
  both_below n p o = option_map_or (λ (x : TreeNode). child_below n false p x.left ++ child_below n true p x.right) o []

  -- ---- below a position

  record Below (p : Position) (x : Node) : Type 0 where
    word : Position
    is : x.at ≡ p ++ word

  record Under (b : Bool) (p : Position) (x : Node) : Type 0 where
    word : Position
    is : x.at ≡ p ++ (b ∷ word)

  child_under : (n : ℕ) → ((j : ℕ) (p : Position) (i : ℕ) (x : Node) → slice_get (nodes_below n j p) i ≡ Some x → Below p x) →
      (b : Bool) (p : Position) (o : Option ℕ) (i : ℕ) (x : Node) → slice_get (child_below n b p o) i ≡ Some x → Under b p x
  child_under n each b p None i x at = absurd (cc)
  child_under n each b p (Some j) i x at =
      let h = each j (p ++ b ∷ []) i x at in record { word = h.word; is = h.is ∙ append_assoc p (b ∷ []) h.word }

  both_under : (n : ℕ) → ((j : ℕ) (p : Position) (i : ℕ) (x : Node) → slice_get (nodes_below n j p) i ≡ Some x → Below p x) →
      (p : Position) (o : Option TreeNode) (i : ℕ) (x : Node) → slice_get (both_below n p o) i ≡ Some x → Under false p x ⊎ Under true p x
  both_under n each p None i x at = absurd (cc)
  both_under n each p (Some y) i x at = elim (appended (child_below n false p y.left) (child_below n true p y.right) i x at) [
    | inl left ↦ inl (child_under n each false p y.left i x left)
    | inr right ↦ inr (child_under n each true p y.right right.0 x right.2)
  ]

  all_below : (n k : ℕ) (p : Position) (i : ℕ) (x : Node) → slice_get (nodes_below n k p) i ≡ Some x → Below p x
  all_below zero k p i x at = absurd (cc)
  all_below (suc n) k p zero x at = record { word = []; is = sym (ap (λ (y : Node). y.at) (same_Some (node k p) x at)) ∙ sym (append-nil p) }
  all_below (suc n) k p (suc i) x at = elim (both_under n (λ j q m y h. all_below n j q m y h) p (slice_get nodes k) i x at) [
    | inl left ↦ record { word = false ∷ left.word; is = left.is }
    | inr right ↦ record { word = true ∷ right.word; is = right.is }
  ]

  -- ---- in order

  child_order : (n : ℕ) → ((j : ℕ) (p : Position) → InOrder (nodes_below n j p)) → (b : Bool) (p : Position) (o : Option ℕ) → InOrder (child_below n b p o)
  unfolding InOrder
  child_order n each b p None = λ i j x y less at_i at_j. absurd (cc)
  child_order n each b p (Some j) = each j (p ++ b ∷ [])

  both_order : (n : ℕ) → ((j : ℕ) (p : Position) → InOrder (nodes_below n j p)) → (p : Position) (o : Option TreeNode) → InOrder (both_below n p o)
  unfolding InOrder
  both_order n each p None = λ i j x y less at_i at_j. absurd (cc)
  both_order n each p (Some z) = InOrder-append (child_below n false p z.left) (child_below n true p z.right) (child_order n each false p z.left)
      (child_order n each true p z.right)
      (λ i j x y at_i at_j.
      let one = child_under n (all_below n) false p z.left i x at_i in
      let other = child_under n (all_below n) true p z.right j y at_j in
      subst (λ q. ComesBefore q y.at) (sym one.is) (subst (ComesBefore (p ++ (false ∷ one.word))) (sym other.is)
      (further p (false ∷ one.word) (true ∷ other.word) tt)))

  under_after : (b : Bool) (p : Position) (y : Node) → Under b p y → ComesBefore p y.at
  under_after b p y h = subst (ComesBefore p) (sym h.is) (subst (λ q. ComesBefore q (p ++ (b ∷ h.word))) (append-nil p) (further p [] (b ∷ h.word) tt))

  below_order : (n k : ℕ) (p : Position) → InOrder (nodes_below n k p)
  unfolding InOrder
  below_order zero k p = λ i j x y less at_i at_j. absurd (cc)
  below_order (suc n) k p = InOrder-first (node k p) (both_below n p (slice_get nodes k)) (both_order n (λ j q. below_order n j q) p (slice_get nodes k))
      (λ j y at. elim (both_under n (all_below n) p (slice_get nodes k) j y at) [
        | inl left ↦ under_after false p y left
        | inr right ↦ under_after true p y right
      ])

  -- ---- where they stand

  Stand : List Node → Type 0
  Stand xs = (i : ℕ) (x : Node) → slice_get xs i ≡ Some x → StandsAt nodes x.place x.at

  child_stand : (n : ℕ) → ((j : ℕ) (p : Position) → StandsAt nodes j p → Stand (nodes_below n j p)) → (b : Bool) (p : Position) (o : Option ℕ) →
      ((j : ℕ) → o ≡ Some j → StandsAt nodes j (p ++ b ∷ [])) → Stand (child_below n b p o)
  unfolding Stand
  child_stand n each b p None stands = λ i x at. absurd (cc)
  child_stand n each b p (Some j) stands = each j (p ++ b ∷ []) (stands j refl)

  both_stand : (n : ℕ) → ((j : ℕ) (p : Position) → StandsAt nodes j p → Stand (nodes_below n j p)) → (k : ℕ) (p : Position) → StandsAt nodes k p →
      (o : Option TreeNode) → slice_get nodes k ≡ o → Stand (both_below n p o)
  unfolding Stand
  both_stand n each k p above None is = λ i x at. absurd (cc)
  both_stand n each k p above (Some y) is = λ i x at. elim (appended (child_below n false p y.left) (child_below n true p y.right) i x at) [
    | inl left ↦ child_stand n each false p y.left (λ j e. at_left k j y p above is e) i x left
    | inr right ↦ child_stand n each true p y.right (λ j e. at_right k j y p above is e) right.0 x right.2
  ]

  below_stand : (n k : ℕ) (p : Position) → StandsAt nodes k p → Stand (nodes_below n k p)
  unfolding Stand
  below_stand zero k p above i x at = absurd (cc)
  below_stand (suc n) k p above zero x at = subst (λ (y : Node). StandsAt nodes y.place y.at) (same_Some (node k p) x at) above
  below_stand (suc n) k p above (suc i) x at = both_stand n (λ j q h. below_stand n j q h) k p above (slice_get nodes k) refl i x at

  -- ---- their places

  places-append : (xs ys : List Node) → places_of (xs ++ ys) ≡ places_of xs ++ places_of ys
  places-append [] ys = refl
  places-append (x ∷ xs) ys = ap (λ l. x.place ∷ l) (places-append xs ys)

  child_places : (n : ℕ) → ((j : ℕ) (p : Position) → places_of (nodes_below n j p) ≡ places_below nodes n j) → (b : Bool) (p : Position) (o : Option ℕ) →
      places_of (child_below n b p o) ≡ option_map_or (places_below nodes n) o []
  child_places n each b p None = refl
  child_places n each b p (Some j) = each j (p ++ b ∷ [])

  both_places : (n : ℕ) → ((j : ℕ) (p : Position) → places_of (nodes_below n j p) ≡ places_below nodes n j) → (p : Position) (o : Option TreeNode) →
      places_of (both_below n p o)
      ≡ option_map_or (λ (x : TreeNode). option_map_or (places_below nodes n) x.left [] ++ option_map_or (places_below nodes n) x.right []) o []
  both_places n each p None = refl
  both_places n each p (Some y) =
      places-append (child_below n false p y.left) (child_below n true p y.right)
      ∙ (λ i. child_places n each false p y.left i ++ child_places n each true p y.right i)

  below_places : (n k : ℕ) (p : Position) → places_of (nodes_below n k p) ≡ places_below nodes n k
  below_places zero k p = refl
  below_places (suc n) k p = ap (λ l. k ∷ l) (both_places n (λ j q. below_places n j q) p (slice_get nodes k))

  -- ---- all of them

  record Has (xs : List Node) (x : Node) : Type 0 where
    place : ℕ
    at : slice_get xs place ≡ Some x

  in_left : (xs ys : List Node) (x : Node) → Has xs x → Has (xs ++ ys) x
  in_left xs ys x h = record { place = h.place; at = in_first xs ys h.place x h.at }

  in_right : (xs ys : List Node) (x : Node) → Has ys x → Has (xs ++ ys) x
  in_right xs ys x h = record { place = length xs + h.place; at = in_second xs ys (length xs) h.place x refl h.at }

  in_rest : (y : Node) (xs : List Node) (x : Node) → Has xs x → Has (y ∷ xs) x
  in_rest y xs x h = record { place = suc h.place; at = h.at }

  abbrev child_in : Bool → TreeNode → Option ℕ
  child_in false y = y.left
  child_in true y = y.right

  -- the list has the children of its nodes
  Closed : List Node → Type 0
  Closed xs = (x : Node) → Has xs x → (y : TreeNode) → slice_get nodes x.place ≡ Some y → (b : Bool) (j : ℕ) → child_in b y ≡ Some j →
      Has xs (node j (x.at ++ b ∷ []))

  module _ (tree : IsTree nodes) where
    first_below : (n k : ℕ) (p : Position) → k < n → Has (nodes_below n k p) (node k p)
    first_below zero k p less = absurd (omega arith)
    first_below (suc n) k p less = record { place = 0; at = refl }

    child_before : (k : ℕ) (y : TreeNode) → slice_get nodes k ≡ Some y → (b : Bool) (j : ℕ) → child_in b y ≡ Some j → j < k
    child_before k y is false j e = IfSome-at y.left (λ c. c < k) j e (tree.left_before k y is)
    child_before k y is true j e = IfSome-at y.right (λ c. c < k) j e (tree.right_before k y is)

    in_child : (n : ℕ) (b : Bool) (p : Position) (o : Option ℕ) (j : ℕ) → o ≡ Some j → j < n → Has (child_below n b p o) (node j (p ++ b ∷ []))
    in_child n b p o j e less = subst (λ c. Has (child_below n b p c) (node j (p ++ b ∷ []))) (sym e) (first_below n j (p ++ b ∷ []) less)

    in_both : (n : ℕ) (p : Position) (y : TreeNode) (b : Bool) (j : ℕ) → child_in b y ≡ Some j → j < n → Has (both_below n p (Some y)) (node j (p ++ b ∷ []))
    in_both n p y false j e less = in_left (child_below n false p y.left) (child_below n true p y.right) _ (in_child n false p y.left j e less)
    in_both n p y true j e less = in_right (child_below n false p y.left) (child_below n true p y.right) _ (in_child n true p y.right j e less)

    child_closed : (n k : ℕ) → ((j : ℕ) (p : Position) → j < n → Closed (nodes_below n j p)) → k < suc n → (b : Bool) (p : Position) (o : Option ℕ) →
        ((j : ℕ) → o ≡ Some j → j < k) → Closed (child_below n b p o)
    unfolding Closed
    child_closed n k each room b p None before = λ x h. let at = h.at in absurd (cc)
    child_closed n k each room b p (Some j) before = let less = before j refl in each j (p ++ b ∷ []) (omega arith)

    both_closed : (n k : ℕ) → ((j : ℕ) (p : Position) → j < n → Closed (nodes_below n j p)) → k < suc n → (p : Position) (o : Option TreeNode) →
        slice_get nodes k ≡ o → Closed (both_below n p o)
    unfolding Closed
    both_closed n k each room p None is = λ x h. let at = h.at in absurd (cc)
    both_closed n k each room p (Some z) is = λ x h y at b j e.
        let left = child_closed n k each room false p z.left (λ c d. child_before k z is false c d) in
        let right = child_closed n k each room true p z.right (λ c d. child_before k z is true c d) in
        elim (appended (child_below n false p z.left) (child_below n true p z.right) h.place x h.at) [
          | inl front ↦ in_left (child_below n false p z.left) (child_below n true p z.right) _ (left x (record { place = h.place; at = front }) y at b j e)
          | inr back ↦ in_right (child_below n false p z.left) (child_below n true p z.right) _ (right x (record { place = back.0; at = back.2 }) y at b j e)
        ]

    below_closed : (n k : ℕ) (p : Position) → k < n → Closed (nodes_below n k p)
    unfolding Closed
    below_closed zero k p less = absurd (omega arith)
    below_closed (suc n) k p less = λ x h y at b j e. by x h.place h.at y at b j e
        (both_closed n k (λ c q room. below_closed n c q room) less p (slice_get nodes k) refl)
      where
        by : (x : Node) (i : ℕ) → slice_get (nodes_below (suc n) k p) i ≡ Some x → (y : TreeNode) → slice_get nodes x.place ≡ Some y → (b : Bool) (j : ℕ) →
            child_in b y ≡ Some j → Closed (both_below n p (slice_get nodes k)) → Has (nodes_below (suc n) k p) (node j (x.at ++ b ∷ []))
        by x zero is y at b j e closed =
            let same : node k p ≡ x = same_Some (node k p) x is in
            let at_k : slice_get nodes k ≡ Some y = ap (λ (z : Node). slice_get nodes z.place) same ∙ at in
            let before = child_before k y at_k b j e in
            in_rest (node k p) (both_below n p (slice_get nodes k)) _
            (subst (λ (z : Node). Has (both_below n p (slice_get nodes k)) (node j (z.at ++ b ∷ []))) same
            (subst (λ o. Has (both_below n p o) (node j (p ++ b ∷ []))) (sym at_k) (in_both n p y b j e (omega arith))))
        by x (suc i) is y at b j e closed = in_rest (node k p) (both_below n p (slice_get nodes k)) _ (closed x (record { place = i; at = is }) y at b j e)

    all_there : (n r : ℕ) → suc r ≡ length nodes → r < n → (k : ℕ) (p : Position) → StandsAt nodes k p → Has (nodes_below n r []) (node k p)
    unfolding Closed
    all_there n r last room _ _ (at_root k is) = let same : r ≡ k = omega arith in
        subst (λ c. Has (nodes_below n r []) (node c [])) same (first_below n r [] room)
    all_there n r last room _ _ (at_left k j y p above at child) = below_closed n r [] room (node k p) (all_there n r last room k p above) y at false j child
    all_there n r last room _ _ (at_right k j y p above at child) = below_closed n r [] room (node k p) (all_there n r last room k p above) y at true j child

-- ---- of the whole tree

-- all nodes in preorder, with their positions
pub nodes_in : List TreeNode → List Node
nodes_in [] = []
nodes_in (x ∷ xs) = nodes_below (x ∷ xs) (suc (length xs)) (length xs) []

nothing_stands : (k : ℕ) (p : Position) → StandsAt [] k p → ⊥
nothing_stands _ _ (at_root k e) = absurd (cc)
nothing_stands _ _ (at_left k j y p above at e) = nothing_stands k p above
nothing_stands _ _ (at_right k j y p above at e) = nothing_stands k p above

pub places-in : (nodes : List TreeNode) → places_of (nodes_in nodes) ≡ preorder_of nodes
unfolding nodes_in
places-in [] = refl
places-in (x ∷ xs) = below_places (x ∷ xs) (suc (length xs)) (length xs) []

pub stands-in : (nodes : List TreeNode) (i : ℕ) (x : Node) → slice_get (nodes_in nodes) i ≡ Some x → StandsAt nodes x.place x.at
unfolding nodes_in Stand
stands-in [] i x at = absurd (cc)
stands-in (y ∷ ys) i x at = below_stand (y ∷ ys) (suc (length ys)) (length ys) [] (at_root (length ys) refl) i x at

pub order-in : (nodes : List TreeNode) (i j : ℕ) (x y : Node) → i < j → slice_get (nodes_in nodes) i ≡ Some x → slice_get (nodes_in nodes) j ≡ Some y →
    ComesBefore x.at y.at
unfolding nodes_in InOrder
order-in [] i j x y less at also = absurd (cc)
order-in (z ∷ zs) i j x y less at also = below_order (z ∷ zs) (suc (length zs)) (length zs) [] i j x y less at also

pub all-in : (nodes : List TreeNode) → IsTree nodes → (k : ℕ) (p : Position) → StandsAt nodes k p → (i : ℕ) × (slice_get (nodes_in nodes) i ≡ Some (node k p))
unfolding nodes_in
all-in [] tree k p above = absurd (nothing_stands k p above)
all-in (x ∷ xs) tree k p above =
    let h = all_there (x ∷ xs) tree (suc (length xs)) (length xs) refl (omega arith) k p above in (h.place, h.at)
