-- On labelled trees: what their nodes stand for, and trees under a root.
use Rattle.std.proofs.Common.{◌≡◌, ℕ, zero, suc, ◌+◌, ◌-◌, ◌<◌, ◌↔◌, IsTrue, true, false, List, [], ◌∷◌, ◌++◌, length, take, map}
use Rattle.std.proofs.Common.{slice_get, unwrap_or, option_map, Option, Some, None, IfSome, refl, sym, ap, ◌∙◌, arith, append_assoc}
use Rattle.std.proofs.Common.{append-nil, length-append}
use mathlib.Core.Path.{fun_ext}
use Rattle.std.proofs.lemmas.List.Sums.{fold-append}
use Rattle.gta_theory.specs.Assignments.{Position, Assignment, Covers, half, root_label, empty_assignment}
use Rattle.gta_theory.specs.Guides.{Spaces, IsGuide, IsSpace, left, right, space_at}
use Rattle.gta_theory.specs.Automata.{Automaton, value, IsStable, Accepts}
use Rattle.gta_theory.specs.Listed.{meanings}
use Rattle.gta_theory.proofs.AssignmentsLemmas.{Covers-more, Covers-empty}
use Rattle.gta_theory.proofs.AutomataLemmas.{value-same, Accepts-at}
use Rattle.gta_theory.proofs.ListedLemmas.{meanings_from, meanings-push, length-meanings, slice_get-meanings, slice_get-front}
use Rattle.gta_theory.proofs.ListedLemmas.{slice_get-last}
use Rattle.ws2s_core.specs.declared.track.Track.{Track}
use Rattle.ws2s_core.specs.declared.label_tree.TreeNode.{TreeNode}
use Rattle.ws2s_core.specs.LabelTrees.{child_assignment, node_assignment, assignment_of, IsTree}
use Rattle.ws2s_core.proofs.LabelTreesLemmas.{Covers-at, Covers-tree}
use Rattle.ws2s_theory.specs.Trees.{assignment_at, child_at, label_of, last_place, moved_on, root_over, under_root, value_at, child_value}
use Rattle.ws2s_theory.specs.Trees.{StandsAt, at_root, at_left, at_right}

slice_get-take : {X : Type 0} (xs : List X) (n k : ℕ) → k < n → slice_get (take n xs) k ≡ slice_get xs k
slice_get-take [] zero k below = absurd (omega arith)
slice_get-take [] (suc n) k below = refl
slice_get-take (x ∷ xs) zero k below = absurd (omega arith)
slice_get-take (x ∷ xs) (suc n) zero below = refl
slice_get-take (x ∷ xs) (suc n) (suc k) below = slice_get-take xs n k (omega arith)

slice_get-later : {X : Type 0} (xs ys : List X) (k : ℕ) → slice_get (xs ++ ys) (length xs + k) ≡ slice_get ys k
slice_get-later [] ys k = let e : 0 + k ≡ k = omega arith in ap (slice_get ys) e
slice_get-later (x ∷ xs) ys k =
    let e : suc (length xs) + k ≡ suc (length xs + k) = omega arith in ap (slice_get (x ∷ xs ++ ys)) e ∙ slice_get-later xs ys k

child-take : (known : List Assignment) (n : ℕ) (child : Option ℕ) → IfSome child (λ k. k < n) →
    child_assignment (take n known) child ≡ child_assignment known child
child-take known n None before = refl
child-take known n (Some k) before = ap (λ o. unwrap_or o empty_assignment) (slice_get-take known n k before)

at-node : (nodes : List TreeNode) (k : ℕ) (node : TreeNode) → slice_get nodes k ≡ Some node →
    assignment_at nodes k ≡ node_assignment (take k (meanings node_assignment nodes)) node
at-node nodes k node at = ap (λ o. unwrap_or o empty_assignment) (slice_get-meanings node_assignment nodes k node at)

pub label-at : (nodes : List TreeNode) (k : ℕ) (node : TreeNode) → slice_get nodes k ≡ Some node →
    root_label (assignment_at nodes k) ≡ label_of node.tracks
label-at nodes k node at = ap root_label (at-node nodes k node at)

pub left-at : (nodes : List TreeNode) (k : ℕ) (node : TreeNode) → IsTree nodes → slice_get nodes k ≡ Some node →
    half false (assignment_at nodes k) ≡ child_at nodes node.left
left-at nodes k node tree at =
    ap (half false) (at-node nodes k node at) ∙ child-take (meanings node_assignment nodes) k node.left (tree.left_before k node at)

pub right-at : (nodes : List TreeNode) (k : ℕ) (node : TreeNode) → IsTree nodes → slice_get nodes k ≡ Some node →
    half true (assignment_at nodes k) ≡ child_at nodes node.right
right-at nodes k node tree at =
    ap (half true) (at-node nodes k node at) ∙ child-take (meanings node_assignment nodes) k node.right (tree.right_before k node at)

-- the last node is the root
pub root-at : (nodes : List TreeNode) → assignment_of nodes ≡ child_at nodes (last_place 0 (length nodes))
root-at [] = refl
root-at (node ∷ nodes) = ap (assignment_at (node ∷ nodes)) (omega arith)

-- nodes that stand later mean the same
moved-child : (base known : List Assignment) (child : Option ℕ) →
    child_assignment (base ++ known) (option_map (λ k. length base + k) child) ≡ child_assignment known child
moved-child base known None = refl
moved-child base known (Some k) = ap (λ o. unwrap_or o empty_assignment) (slice_get-later base known k)

moved-node : (base known : List Assignment) (node : TreeNode) →
    node_assignment (base ++ known) (moved_on (length base) node) ≡ node_assignment known node
moved-node base known node = fun_ext (λ t. fun_ext (λ p. at t p))
  where
    at : (t : ℕ) (p : Position) → node_assignment (base ++ known) (moved_on (length base) node) t p ≡ node_assignment known node t p
    at t [] = refl
    at t (false ∷ p) = λ i. moved-child base known node.left i t p
    at t (true ∷ p) = λ i. moved-child base known node.right i t p

moved-meanings : (base known : List Assignment) (nodes : List TreeNode) →
    meanings_from node_assignment (base ++ known) (map (moved_on (length base)) nodes) ≡ base ++ meanings_from node_assignment known nodes
moved-meanings base known [] = refl
moved-meanings base known (node ∷ nodes) =
    ap (λ m. meanings_from node_assignment ((base ++ known) ++ m ∷ []) (map (moved_on (length base)) nodes)) (moved-node base known node)
    ∙ ap (λ ms. meanings_from node_assignment ms (map (moved_on (length base)) nodes)) (append_assoc base known (node_assignment known node ∷ []))
    ∙ moved-meanings base (known ++ node_assignment known node ∷ []) nodes

module _ (tracks : List Track) (l r : List TreeNode) where
  both : List Assignment
  both = meanings node_assignment l ++ meanings node_assignment r

  before-root : meanings node_assignment (l ++ map (moved_on (length l)) r) ≡ both
  unfolding both
  before-root =
      let same : length l ≡ length (meanings node_assignment l) = sym (length-meanings node_assignment l) in
      fold-append (λ earlier node. earlier ++ node_assignment earlier node ∷ []) [] l (map (moved_on (length l)) r)
      ∙ ap (λ n. meanings_from node_assignment (meanings node_assignment l) (map (moved_on n) r)) same
      ∙ ap (λ ms. meanings_from node_assignment ms (map (moved_on (length (meanings node_assignment l))) r)) (sym (append-nil (meanings node_assignment l)))
      ∙ moved-meanings (meanings node_assignment l) [] r

  whole : assignment_of (under_root tracks l r) ≡ node_assignment both (root_over tracks (length l) (length r))
  unfolding both
  whole =
      let front = l ++ map (moved_on (length l)) r in
      let root = root_over tracks (length l) (length r) in
      let long : length (under_root tracks l r) - 1 ≡ length (meanings node_assignment front) =
      omega (arith, length-append front (root ∷ []), length-meanings node_assignment front) in
      ap (assignment_at (under_root tracks l r)) long
      ∙ ap (λ ms. unwrap_or (slice_get ms (length (meanings node_assignment front))) empty_assignment) (meanings-push node_assignment front root)
      ∙ ap (λ o. unwrap_or o empty_assignment) (slice_get-last (meanings node_assignment front) (node_assignment (meanings node_assignment front) root))
      ∙ ap (λ ms. node_assignment ms root) before-root

  pub label-joined : root_label (assignment_of (under_root tracks l r)) ≡ label_of tracks
  label-joined = ap root_label whole

  in-left : (n : ℕ) → length l ≡ n → child_assignment both (last_place 0 n) ≡ child_at l (last_place 0 n)
  unfolding both
  in-left zero e = refl
  in-left (suc n) e = ap (λ o. unwrap_or o empty_assignment)
      (slice_get-front (meanings node_assignment l) (meanings node_assignment r) (0 + n) (omega (arith, length-meanings node_assignment l)))

  in-right : (n : ℕ) → child_assignment both (last_place (length l) n) ≡ child_at r (last_place 0 n)
  unfolding both
  in-right zero = refl
  in-right (suc n) =
      ap (λ k. unwrap_or (slice_get both (k + n)) empty_assignment) (sym (length-meanings node_assignment l))
      ∙ ap (λ o. unwrap_or o empty_assignment) (slice_get-later (meanings node_assignment l) (meanings node_assignment r) n)
      ∙ (let e : n ≡ 0 + n = omega arith in ap (assignment_at r) e)

  pub left-joined : half false (assignment_of (under_root tracks l r)) ≡ assignment_of l
  left-joined = ap (half false) whole ∙ in-left (length l) refl ∙ sym (root-at l)

  pub right-joined : half true (assignment_of (under_root tracks l r)) ≡ assignment_of r
  right-joined = ap (half true) whole ∙ in-right (length r) ∙ sym (root-at r)

-- values
module _ {Q : Type 0} (g : Spaces) (guide : IsGuide g) (A : Automaton Q) (stable : IsStable g A) (nodes : List TreeNode) where
  value-child : (s : ℕ) (child : Option ℕ) → IsSpace g s → value g A s (length nodes) (child_at nodes child) ≡ child_value g A s nodes child
  value-child s None there = value-same g guide A stable s (length nodes) 0 empty_assignment there (λ t p deep. refl) Covers-empty
  value-child s (Some k) there = refl

  pub value-step : (s k : ℕ) (node : TreeNode) → IsSpace g s → IsTree nodes → slice_get nodes k ≡ Some node →
      value_at g A s nodes k ≡ A.step s (child_value g A (left g s) nodes node.left) (child_value g A (right g s) nodes node.right) (label_of node.tracks)
  value-step s k node there tree at =
      let covers = Covers-at nodes k in
      let more : Covers (suc (length nodes)) (assignment_at nodes k) =
      Covers-more (length nodes) (suc (length nodes)) (assignment_at nodes k) (omega arith) covers in
      value-same g guide A stable s (length nodes) (suc (length nodes)) (assignment_at nodes k) there covers more
      ∙ (λ i. A.step s
      (value g A (left g s) (length nodes) (left-at nodes k node tree at i)) (value g A (right g s) (length nodes) (right-at nodes k node tree at i))
      (label-at nodes k node at i))
      ∙ (λ i. A.step s (value-child (left g s) node.left (guide.left_inside s there) i) (value-child (right g s) node.right (guide.right_inside s there) i)
      (label_of node.tracks))

  value-root : value g A 0 (length nodes) (assignment_of nodes) ≡ child_value g A 0 nodes (last_place 0 (length nodes))
  value-root =
      ap (value g A 0 (length nodes)) (root-at nodes) ∙ value-child 0 (last_place 0 (length nodes)) guide.not_empty

  pub Accepts-root : Accepts g A (assignment_of nodes) ↔ IsTrue (A.accepting (child_value g A 0 nodes (last_place 0 (length nodes))))
  Accepts-root = (
    (λ h. sym (ap (λ q. A.accepting q) value-root) ∙ Accepts-at g guide A stable (length nodes) (assignment_of nodes) (Covers-tree nodes) h),
    (λ h. record { depth = length nodes; covers = Covers-tree nodes; accepted = ap (λ q. A.accepting q) value-root ∙ h }),
  )

-- positions and spaces
pub below-position : (nodes : List TreeNode) → IsTree nodes → (k : ℕ) (p : Position) → StandsAt nodes k p → (t : ℕ) (q : Position) →
    assignment_of nodes t (p ++ q) ≡ assignment_at nodes k t q
below-position nodes tree _ _ (at_root k last) t q =
    let n : length nodes - 1 ≡ k = omega arith in λ i. assignment_at nodes (n i) t q
below-position nodes tree _ _ (at_left k j node p above at child) t q =
    ap (λ w. assignment_of nodes t w) (append_assoc p (false ∷ []) q)
    ∙ below-position nodes tree k p above t (false ∷ q)
    ∙ (λ i. left-at nodes k node tree at i t q) ∙ (λ i. child_at nodes (child i) t q)
below-position nodes tree _ _ (at_right k j node p above at child) t q =
    ap (λ w. assignment_of nodes t w) (append_assoc p (true ∷ []) q)
    ∙ below-position nodes tree k p above t (true ∷ q)
    ∙ (λ i. right-at nodes k node tree at i t q) ∙ (λ i. child_at nodes (child i) t q)

pub space-left : (g : Spaces) (s : ℕ) (p : Position) → space_at g s (p ++ false ∷ []) ≡ left g (space_at g s p)
space-left g s [] = refl
space-left g s (false ∷ p) = space-left g (left g s) p
space-left g s (true ∷ p) = space-left g (right g s) p

pub space-right : (g : Spaces) (s : ℕ) (p : Position) → space_at g s (p ++ true ∷ []) ≡ right g (space_at g s p)
space-right g s [] = refl
space-right g s (false ∷ p) = space-right g (left g s) p
space-right g s (true ∷ p) = space-right g (right g s) p

pub space-inside : (g : Spaces) → IsGuide g → (s : ℕ) (p : Position) → IsSpace g s → IsSpace g (space_at g s p)
space-inside g guide s [] there = there
space-inside g guide s (false ∷ p) there = space-inside g guide (left g s) p (guide.left_inside s there)
space-inside g guide s (true ∷ p) there = space-inside g guide (right g s) p (guide.right_inside s there)
