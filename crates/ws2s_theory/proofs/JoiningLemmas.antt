-- Two trees under a root are a tree.
use Rattle.std.proofs.Common.{◌≡◌, ◌≢◌, ◌⊎◌, ℕ, zero, suc, ◌+◌, ◌-◌, ◌<◌, ◌≤◌, cond, eqb, List, [], ◌∷◌, ◌++◌, length, map, flat_map, sum_by}
use Rattle.std.proofs.Common.{slice_get, option_map, option_to_list, Option, Some, None, IfSome, refl, sym, ap, subst, ◌∙◌, inl, inr, arith, eq-eqb, ne_eqb}
use Rattle.std.proofs.Common.{length-append}
use Rattle.std.proofs.lemmas.Bool.{cases_lt, cases_eq}
use Rattle.std.proofs.lemmas.Grind.{flat_map-append}
use Rattle.std.proofs.lemmas.List.{length-map}
use Rattle.std.proofs.lemmas.List.Sums.{sum_by-append}
use Rattle.std.proofs.lemmas.Option.{slice_get_within}
use Rattle.gta_theory.proofs.ListedLemmas.{slice_get-push}
use Rattle.ws2s_core.specs.declared.track.Track.{Track}
use Rattle.ws2s_core.specs.declared.label_tree.TreeNode.{TreeNode}
use Rattle.ws2s_core.specs.LabelTrees.{IsTree, children_of, times_named}
use Rattle.ws2s_theory.specs.Trees.{last_place, moved_on, root_over, under_root}

-- how often a child names a place
abbrev pub hits : Option ℕ → ℕ → ℕ
hits None k = 0
hits (Some j) k = cond (eqb j k) 1 0

node-times : (node : TreeNode) (k : ℕ) → times_named (node ∷ []) k ≡ hits node.left k + hits node.right k
node-times node k = pick node.left node.right
  where
    pick : (l r : Option ℕ) → sum_by (λ child. cond (eqb child k) 1 0) ((option_to_list l ++ option_to_list r) ++ []) ≡ hits l k + hits r k
    pick None None = refl
    pick None (Some j) = omega arith
    pick (Some i) None = omega arith
    pick (Some i) (Some j) = omega arith

times-append : (xs ys : List TreeNode) (k : ℕ) → times_named (xs ++ ys) k ≡ times_named xs k + times_named ys k
times-append xs ys k =
    ap (sum_by (λ child. cond (eqb child k) 1 0)) (flat_map-append children_of xs ys)
    ∙ sum_by-append (λ child. cond (eqb child k) 1 0) (flat_map children_of xs) (flat_map children_of ys)

pub times-cons : (node : TreeNode) (nodes : List TreeNode) (k : ℕ) → times_named (node ∷ nodes) k ≡ hits node.left k + hits node.right k + times_named nodes k
times-cons node nodes k = times-append (node ∷ []) nodes k ∙ ap (λ n. n + times_named nodes k) (node-times node k)

hits-other : (j k : ℕ) → j ≢ k → hits (Some j) k ≡ 0
hits-other j k other = ap (λ b. cond b 1 0) (ne_eqb j k other)

pub hits-same : (j k : ℕ) → j ≡ k → hits (Some j) k ≡ 1
hits-same j k same = ap (λ b. cond b 1 0) (eq-eqb j k same)

hits-below : (child : Option ℕ) (k : ℕ) → IfSome child (λ j. j < k) → hits child k ≡ 0
hits-below None k below = refl
hits-below (Some j) k below = hits-other j k (λ e. omega arith)

-- a place above all that are named isn't named
times-above : (nodes : List TreeNode) (k : ℕ) →
    ((i : ℕ) (node : TreeNode) → slice_get nodes i ≡ Some node → IfSome node.left (λ j. j < k) × IfSome node.right (λ j. j < k)) →
    times_named nodes k ≡ 0
times-above [] k below = refl
times-above (node ∷ nodes) k below =
    let here = below 0 node refl in
    let rest = times-above nodes k (λ i other at. below (suc i) other at) in
    omega (arith, times-cons node nodes k, hits-below node.left k here.0, hits-below node.right k here.1, rest)

IfSome-more : (child : Option ℕ) (i k : ℕ) → i ≤ k → IfSome child (λ j. j < i) → IfSome child (λ j. j < k)
IfSome-more None i k le below = tt
IfSome-more (Some j) i k le below = omega arith

-- nor the last node of a tree, or a place behind it
times-last : (nodes : List TreeNode) → IsTree nodes → (k : ℕ) → length nodes ≤ suc k → times_named nodes k ≡ 0
times-last nodes tree k long = times-above nodes k (λ i node at.
    let inside = slice_get_within nodes i node at in
    let le : i ≤ k = omega arith in
    (IfSome-more node.left i k le (tree.left_before i node at), IfSome-more node.right i k le (tree.right_before i node at)))

-- nodes that were moved on name places that were moved on
hits-moved_below : (n k : ℕ) (child : Option ℕ) → k < n → hits (option_map (λ j. n + j) child) k ≡ 0
hits-moved_below n k None below = refl
hits-moved_below n k (Some j) below = hits-other (n + j) k (λ e. omega arith)

hits-moved : (n k : ℕ) (child : Option ℕ) → hits (option_map (λ j. n + j) child) (n + k) ≡ hits child k
hits-moved n k None = refl
hits-moved n k (Some j) = elim (cases_eq j k) as (λ _. hits (Some (n + j)) (n + k) ≡ hits (Some j) k) [
  | inl same ↦ hits-same (n + j) (n + k) (ap (λ i. n + i) same) ∙ sym (hits-same j k same)
  | inr other ↦ hits-other (n + j) (n + k) (λ e. other (omega arith)) ∙ sym (hits-other j k other)
]

times-moved_below : (n k : ℕ) (nodes : List TreeNode) → k < n → times_named (map (moved_on n) nodes) k ≡ 0
times-moved_below n k [] below = refl
times-moved_below n k (node ∷ nodes) below =
    omega (
      arith,
      times-cons (moved_on n node) (map (moved_on n) nodes) k,
      hits-moved_below n k node.left below,
      hits-moved_below n k node.right below,
      times-moved_below n k nodes below,
    )

times-moved : (n k : ℕ) (nodes : List TreeNode) → times_named (map (moved_on n) nodes) (n + k) ≡ times_named nodes k
times-moved n k [] = refl
times-moved n k (node ∷ nodes) =
    omega (
      arith,
      times-cons (moved_on n node) (map (moved_on n) nodes) (n + k),
      times-cons node nodes k,
      hits-moved n k node.left,
      hits-moved n k node.right,
      times-moved n k nodes,
    )

-- the root names the last places
last-hit : (offset n k : ℕ) → 0 < n → suc k ≡ offset + n → hits (last_place offset n) k ≡ 1
last-hit offset zero k some e = absurd (omega arith)
last-hit offset (suc n) k some e = hits-same (offset + n) k (omega arith)

last-miss : (offset n k : ℕ) → (0 < n → suc k ≡ offset + n → ⊥) → hits (last_place offset n) k ≡ 0
last-miss offset zero k other = refl
last-miss offset (suc n) k other = hits-other (offset + n) k (λ e. other (omega arith) (omega arith))

module _ (tracks : List Track) (l r : List TreeNode) (of_l : IsTree l) (of_r : IsTree r) where
  times-whole : (k : ℕ) → times_named (under_root tracks l r) k
      ≡ (times_named l k + times_named (map (moved_on (length l)) r) k)
      + (hits (last_place 0 (length l)) k + hits (last_place (length l) (length r)) k)
  times-whole k =
      let front = l ++ map (moved_on (length l)) r in
      let root = root_over tracks (length l) (length r) in
      omega (arith, times-append front (root ∷ []) k, times-append l (map (moved_on (length l)) r) k, node-times root k)

  once-left : (k : ℕ) → k < length l → times_named (under_root tracks l r) k ≡ 1
  once-left k below = elim (cases_lt (suc k) (length l)) as (λ _. times_named (under_root tracks l r) k ≡ 1) [
    | inl inner ↦
        omega (
          arith,
          times-whole k,
          of_l.once k (omega arith),
          times-moved_below (length l) k r below,
          last-miss 0 (length l) k (λ some e. omega arith),
          last-miss (length l) (length r) k (λ some e. omega arith),
        )
    | inr last ↦
        omega (
          arith,
          times-whole k,
          times-last l of_l k (omega arith),
          times-moved_below (length l) k r below,
          last-hit 0 (length l) k (omega arith) (omega arith),
          last-miss (length l) (length r) k (λ some e. omega arith),
        )
  ]

  once-right : (j : ℕ) → j < length r → times_named (under_root tracks l r) (length l + j) ≡ 1
  once-right j below = elim (cases_lt (suc j) (length r)) as (λ _. times_named (under_root tracks l r) (length l + j) ≡ 1) [
    | inl inner ↦
        omega (
          arith,
          times-whole (length l + j),
          times-last l of_l (length l + j) (omega arith),
          times-moved (length l) j r,
          of_r.once j (omega arith),
          last-miss 0 (length l) (length l + j) (λ some e. omega arith),
          last-miss (length l) (length r) (length l + j) (λ some e. omega arith),
        )
    | inr last ↦
        omega (
          arith,
          times-whole (length l + j),
          times-last l of_l (length l + j) (omega arith),
          times-moved (length l) j r,
          times-last r of_r j (omega arith),
          last-miss 0 (length l) (length l + j) (λ some e. omega arith),
          last-hit (length l) (length r) (length l + j) (omega arith) (omega arith),
        )
  ]

  once-each : (k : ℕ) → k < length l + length r → times_named (under_root tracks l r) k ≡ 1
  once-each k below = elim (cases_lt k (length l)) as (λ _. times_named (under_root tracks l r) k ≡ 1) [
    | inl in_l ↦ once-left k in_l
    | inr in_r ↦
        let same : length l + (k - length l) ≡ k = omega arith in
        subst (λ i. times_named (under_root tracks l r) i ≡ 1) same (once-right (k - length l) (omega arith))
  ]

-- a place in the front is in the left tree or, moved on, in the right one
moved-origin : (n : ℕ) (r : List TreeNode) (k : ℕ) (node : TreeNode) → slice_get (map (moved_on n) r) k ≡ Some node →
    (old : TreeNode) × (slice_get r k ≡ Some old) × (node ≡ moved_on n old)
moved-origin n [] k node at = absurd cc
moved-origin n (old ∷ r) zero node at = (old, refl, cc)
moved-origin n (old ∷ r) (suc k) node at = moved-origin n r k node at

later-origin : (l l' : List TreeNode) (r : List TreeNode) (k : ℕ) (node : TreeNode) → slice_get (l' ++ map (moved_on (length l)) r) k ≡ Some node →
    (slice_get l' k ≡ Some node) ⊎ ((j : ℕ) × (old : TreeNode) × (k ≡ length l' + j) × (slice_get r j ≡ Some old) × (node ≡ moved_on (length l) old))
later-origin l [] r k node at = let o = moved-origin (length l) r k node at in inr (k, o.0, omega arith, o.1, o.2)
later-origin l (x ∷ l') r zero node at = inl at
later-origin l (x ∷ l') r (suc k) node at =
    elim (later-origin l l' r k node at) as (λ _. (slice_get l' k ≡ Some node)
    ⊎ ((j : ℕ) × (old : TreeNode) × (suc k ≡ length (x ∷ l') + j) × (slice_get r j ≡ Some old) × (node ≡ moved_on (length l) old))) [
      | inl in_l ↦ inl in_l
      | inr in_r ↦ inr (in_r.0, in_r.1, omega (arith, in_r.2), in_r.3, in_r.4)
    ]

IfSome-moved : (n j : ℕ) (child : Option ℕ) → IfSome child (λ i. i < j) → IfSome (option_map (λ i. n + i) child) (λ i. i < n + j)
IfSome-moved n j None below = tt
IfSome-moved n j (Some i) below = omega arith

last-before : (offset n k : ℕ) → offset + n ≤ k → IfSome (last_place offset n) (λ i. i < k)
last-before offset zero k le = tt
last-before offset (suc n) k le = omega arith

length-front : (l r : List TreeNode) → length (l ++ map (moved_on (length l)) r) ≡ length l + length r
length-front l r = omega (arith, length-append l (map (moved_on (length l)) r), length-map r (moved_on (length l)))

-- the children on one side stand before their parents, where they do in both trees and at the root
module _ (tracks : List Track) (l r : List TreeNode) (side : TreeNode → Option ℕ)
    (moves : (n : ℕ) (node : TreeNode) → side (moved_on n node) ≡ option_map (λ j. n + j) (side node)) where
  before-joined : ((k : ℕ) (node : TreeNode) → slice_get l k ≡ Some node → IfSome (side node) (λ child. child < k)) →
      ((k : ℕ) (node : TreeNode) → slice_get r k ≡ Some node → IfSome (side node) (λ child. child < k)) →
      IfSome (side (root_over tracks (length l) (length r))) (λ child. child < length l + length r) →
      (k : ℕ) (node : TreeNode) → slice_get (under_root tracks l r) k ≡ Some node → IfSome (side node) (λ child. child < k)
  before-joined in_l in_r at_root k node at =
      elim (slice_get-push (l ++ map (moved_on (length l)) r) (root_over tracks (length l) (length r)) node k at)
      as (λ _. IfSome (side node) (λ child. child < k)) [
        | inl early ↦ elim (later-origin l l r k node early) as (λ _. IfSome (side node) (λ child. child < k)) [
          | inl first ↦ in_l k node first
          | inr second ↦
              subst (λ (o : Option ℕ). IfSome o (λ child. child < k)) (sym (ap side second.4 ∙ moves (length l) second.1))
              (subst (λ i. IfSome (option_map (λ j. length l + j) (side second.1)) (λ child. child < i)) (sym second.2)
              (IfSome-moved (length l) second.0 (side second.1) (in_r second.0 second.1 second.3)))
        ]
        | inr last ↦
            let end : length l + length r ≡ k = omega (arith, last.0, length-front l r) in
            subst (λ (n : TreeNode). IfSome (side n) (λ child. child < k)) last.1
            (subst (λ i. IfSome (side (root_over tracks (length l) (length r))) (λ child. child < i)) end at_root)
      ]

-- two trees under a root are a tree
pub IsTree-joined : (tracks : List Track) (l r : List TreeNode) → IsTree l → IsTree r → length l + length r + 1 < 4294967295 →
    IsTree (under_root tracks l r)
IsTree-joined tracks l r of_l of_r few = record {
  few = omega (arith, long);
  left_before = before-joined tracks l r (λ node. node.left) (λ n node. refl) of_l.left_before of_r.left_before
      (last-before 0 (length l) (length l + length r) (omega arith));
  right_before = before-joined tracks l r (λ node. node.right) (λ n node. refl) of_l.right_before of_r.right_before
      (last-before (length l) (length r) (length l + length r) (omega arith));
  once = λ k inside. once-each tracks l r of_l of_r k (omega (arith, long));
}
  where
    long : length (under_root tracks l r) ≡ length l + length r + 1
    long = omega (arith, length-append (l ++ map (moved_on (length l)) r) (root_over tracks (length l) (length r) ∷ []), length-front l r)
