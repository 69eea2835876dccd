-- On where the nodes of a tree hang: each has one parent and one position, and what the tree has at positions.
use Rattle.std.proofs.Common.{◌≡◌, ℕ, zero, suc, ◌+◌, ◌*◌, ◌-◌, ◌<◌, ◌≤◌, Bool, true, false, IsTrue, cond, List, [], ◌∷◌, ◌++◌, length}
use Rattle.std.proofs.Common.{replicate, slice_get, slice_set, Option, Some, None, IfSome, refl, sym, ap, subst, ◌∙◌, inl, inr, arith, ne_eqb}
use Rattle.std.proofs.Common.{append_assoc, append-nil}
use mathlib.Core.Bool.{true≢false}
use Rattle.std.proofs.lemmas.Bool.{cases_lt, cases_eq, lt-ltb}
use Rattle.std.proofs.lemmas.List.{length-set, length-replicate}
use Rattle.std.proofs.lemmas.Option.{slice_get_within}
use Rattle.gta_theory.specs.Assignments.{Position}
use Rattle.ws2s_core.specs.declared.label_tree.TreeNode.{TreeNode}
use Rattle.ws2s_core.specs.LabelTrees.{IsTree, times_named, assignment_of}
use Rattle.ws2s_theory.specs.Trees.{assignment_at, child_at, label_of, StandsAt, at_root, at_left, at_right}
use Rattle.ws2s_theory.proofs.JoiningLemmas.{hits, hits-same, times-cons}
use Rattle.ws2s_theory.proofs.TreesLemmas.{label-at, left-at, right-at, below-position}
use Rattle.ws2s_example.specs.declared.hanging.Hanging.{Hanging}
use Rattle.ws2s_example.proofs.ListLemmas.{get-set, get-set_other, some}
use Rattle.ws2s_example.specs.Hanging.{child_by, HasChild, IsHanging, AreHangings, hung}

-- ---- how often a node names a place

named : TreeNode → ℕ → ℕ
named node k = hits node.left k + hits node.right k

hit : (child : Option ℕ) (k : ℕ) → child ≡ Some k → hits child k ≡ 1
hit child k at = ap (λ (o : Option ℕ). hits o k) at ∙ hits-same k k refl

named-by : (x : Bool) (node : TreeNode) (k : ℕ) → child_by x node ≡ Some k → 1 ≤ named node k
unfolding named
named-by true node k at = omega (arith, hit node.right k at)
named-by false node k at = omega (arith, hit node.left k at)

named-both : (node : TreeNode) (k : ℕ) → child_by false node ≡ Some k → child_by true node ≡ Some k → 2 ≤ named node k
unfolding named
named-both node k left right = omega (arith, hit node.left k left, hit node.right k right)

named-le : (nodes : List TreeNode) (a k : ℕ) (node : TreeNode) → slice_get nodes a ≡ Some node → named node k ≤ times_named nodes k
unfolding named
named-le [] a k node at = absurd cc
named-le (n ∷ nodes) zero k node at =
    let same : n ≡ node = cc in
    let e = ap (λ (m : TreeNode). hits m.left k + hits m.right k) same in omega (arith, times-cons n nodes k)
named-le (n ∷ nodes) (suc a) k node at = omega (arith, times-cons n nodes k, named-le nodes a k node at)

named-two : (nodes : List TreeNode) (a b k : ℕ) (node other : TreeNode) → a < b → slice_get nodes a ≡ Some node → slice_get nodes b ≡ Some other →
    named node k + named other k ≤ times_named nodes k
unfolding named
named-two [] a b k node other less at_a at_b = absurd cc
named-two (n ∷ nodes) a zero k node other less at_a at_b = absurd (omega arith)
named-two (n ∷ nodes) zero (suc b) k node other less at_a at_b =
    let same : n ≡ node = cc in
    let e = ap (λ (m : TreeNode). hits m.left k + hits m.right k) same in
    omega (arith, times-cons n nodes k, named-le nodes b k other at_b)
named-two (n ∷ nodes) (suc a) (suc b) k node other less at_a at_b =
    omega (arith, times-cons n nodes k, named-two nodes a b k node other (omega arith) at_a at_b)

hits-not : (child : Option ℕ) (k : ℕ) → (child ≡ Some k → ⊥) → hits child k ≡ 0
hits-not None k other = refl
hits-not (Some j) k other = ap (λ b. cond b 1 0) (ne_eqb j k (λ e. other (ap Some e)))

-- a place that is nobody's child isn't named
named-never : (nodes : List TreeNode) (k : ℕ) → ((a : ℕ) (x : Bool) → HasChild nodes a x k → ⊥) → times_named nodes k ≡ 0
named-never [] k none = refl
named-never (node ∷ nodes) k none =
    let on_left = hits-not node.left k (λ at. none 0 false (record { node = node; there = refl; is_child = at })) in
    let on_right = hits-not node.right k (λ at. none 0 true (record { node = node; there = refl; is_child = at })) in
    let rest = named-never nodes k (λ a x has. none (suc a) x (record { node = has.node; there = has.there; is_child = has.is_child })) in
    omega (arith, times-cons node nodes k, on_left, on_right, rest)

if_some : {X : Type 0} (P : X → Type 0) (o : Option X) (x : X) → o ≡ Some x → IfSome o P → P x
if_some P o x at holds = subst (λ (p : Option _). IfSome p P) at holds

-- ---- parents and positions

module _ (nodes : List TreeNode) (tree : IsTree nodes) where
  pub child-before : (a k : ℕ) (x : Bool) → HasChild nodes a x k → k < a
  child-before a k true has = if_some (λ j. j < a) (has.node).right k has.is_child (tree.right_before a has.node has.there)
  child-before a k false has = if_some (λ j. j < a) (has.node).left k has.is_child (tree.left_before a has.node has.there)

  pub parent-inside : (a k : ℕ) (x : Bool) → HasChild nodes a x k → a < length nodes
  parent-inside a k x has = slice_get_within nodes a has.node has.there

  named-once : (a k : ℕ) (x : Bool) → HasChild nodes a x k → times_named nodes k ≡ 1
  named-once a k x has = tree.once k (omega (arith, child-before a k x has, parent-inside a k x has))

  same-side : (a k : ℕ) (x y : Bool) → HasChild nodes a x k → HasChild nodes a y k → x ≡ y
  same-side a k true true has other = refl
  same-side a k false false has other = refl
  same-side a k true false has other =
      let same : other.node ≡ has.node = cc (sym other.there ∙ has.there) in
      let left = ap (λ (m : TreeNode). m.left) (sym same) ∙ other.is_child in
      absurd (omega (arith, named-both has.node k left has.is_child, named-le nodes a k has.node has.there, named-once a k true has))
  same-side a k false true has other =
      let same : other.node ≡ has.node = cc (sym other.there ∙ has.there) in
      let right = ap (λ (m : TreeNode). m.right) (sym same) ∙ other.is_child in
      absurd (omega (arith, named-both has.node k has.is_child right, named-le nodes a k has.node has.there, named-once a k false has))

  one-before : (a b k : ℕ) (x y : Bool) → a < b → HasChild nodes a x k → HasChild nodes b y k → ⊥
  one-before a b k x y less has other =
      omega (
        arith,
        named-two nodes a b k has.node other.node less has.there other.there,
        named-by x has.node k has.is_child,
        named-by y other.node k other.is_child,
        named-once a k x has,
      )

  -- a node is the child of one node, on one side
  pub one-parent : (a b k : ℕ) (x y : Bool) → HasChild nodes a x k → HasChild nodes b y k → (a ≡ b) × (x ≡ y)
  one-parent a b k x y has other = elim (cases_lt a b) as (λ _. (a ≡ b) × (x ≡ y)) [
    | inl less ↦ absurd (one-before a b k x y less has other)
    | inr le ↦ elim (cases_lt b a) as (λ _. (a ≡ b) × (x ≡ y)) [
      | inl less ↦ absurd (one-before b a k y x less other has)
      | inr ge ↦
          let same : b ≡ a = omega arith in
          (sym same, same-side a k x y has (subst (λ (n : ℕ). HasChild nodes n y k) same other))
    ]
  ]

  pub stands-child : (a k : ℕ) (x : Bool) (q : Position) → HasChild nodes a x k → StandsAt nodes a q → StandsAt nodes k (q ++ x ∷ [])
  stands-child a k true q has above = at_right a k has.node q above has.there has.is_child
  stands-child a k false q has above = at_left a k has.node q above has.there has.is_child

  -- what stands below a node stands behind its position
  pub stands-parent : (a k : ℕ) (x : Bool) (p : Position) → HasChild nodes a x k → StandsAt nodes k p →
      (q : Position) × StandsAt nodes a q × (p ≡ q ++ x ∷ [])
  stands-parent a _ x _ has (at_root k last) = absurd (omega (arith, child-before a k x has, parent-inside a k x has))
  stands-parent a _ x _ has (at_left b k node p above at child) =
      let one = one-parent b a k false x (record { node = node; there = at; is_child = child }) has in
      (p, subst (λ (n : ℕ). StandsAt nodes n p) one.0 above, ap (λ (y : Bool). p ++ y ∷ []) one.1)
  stands-parent a _ x _ has (at_right b k node p above at child) =
      let one = one-parent b a k true x (record { node = node; there = at; is_child = child }) has in
      (p, subst (λ (n : ℕ). StandsAt nodes n p) one.0 above, ap (λ (y : Bool). p ++ y ∷ []) one.1)

  -- a node stands at one position
  pub position-one : (k : ℕ) (p q : Position) → StandsAt nodes k p → StandsAt nodes k q → p ≡ q
  position-one _ _ q (at_root k last) other = root-only k q last other
    where
      root-only : (j : ℕ) (r : Position) → suc j ≡ length nodes → StandsAt nodes j r → [] ≡ r
      root-only _ _ last (at_root j same) = refl
      root-only _ _ last (at_left b j node p above at child) =
          let has : HasChild nodes b false j = record { node = node; there = at; is_child = child } in
          absurd (omega (arith, child-before b j false has, parent-inside b j false has))
      root-only _ _ last (at_right b j node p above at child) =
          let has : HasChild nodes b true j = record { node = node; there = at; is_child = child } in
          absurd (omega (arith, child-before b j true has, parent-inside b j true has))
  position-one _ _ q (at_left b k node p above at child) other =
      let below = stands-parent b k false q (record { node = node; there = at; is_child = child }) other in
      ap (λ (r : Position). r ++ false ∷ []) (position-one b p below.0 above below.1) ∙ sym below.2
  position-one _ _ q (at_right b k node p above at child) other =
      let below = stands-parent b k true q (record { node = node; there = at; is_child = child }) other in
      ap (λ (r : Position). r ++ true ∷ []) (position-one b p below.0 above below.1) ∙ sym below.2

  -- a node that is nobody's child is the root
  pub root-without_parent : (k : ℕ) → k < length nodes → ((a : ℕ) (x : Bool) → HasChild nodes a x k → ⊥) → suc k ≡ length nodes
  root-without_parent k inside none = elim (cases_lt (k + 1) (length nodes)) as (λ _. suc k ≡ length nodes) [
    | inl less ↦ absurd (omega (arith, tree.once k less, named-never nodes k none))
    | inr le ↦ omega arith
  ]

-- ---- where nodes hang, as far as parents were looked at: each has two places for a child

abbrev bit : Bool → ℕ
bit false = 0
bit true = 1

abbrev IsHangingSoFar : List TreeNode → ℕ → ℕ → Option Hanging → Type 0
IsHangingSoFar nodes seen child None = (parent : ℕ) (x : Bool) → 2 * parent + bit x < seen → HasChild nodes parent x child → ⊥
IsHangingSoFar nodes seen child (Some hanging) = HasChild nodes hanging.parent hanging.letter child

pub record HangingsSoFar (nodes : List TreeNode) (seen : ℕ) (hangings : List (Option Hanging)) : Type 0 where
  pub long : length hangings ≡ length nodes
  pub each : (child : ℕ) (hanging : Option Hanging) → slice_get hangings child ≡ Some hanging → IsHangingSoFar nodes seen child hanging

pub so_far-start : (nodes : List TreeNode) (hangings : List (Option Hanging)) → hangings ≡ replicate (length nodes) None → HangingsSoFar nodes 0 hangings
so_far-start nodes hangings is = record {
  long = ap length is ∙ length-replicate (length nodes) None;
  each = λ child hanging at.
      let none : None ≡ hanging = none-at (length nodes) child hanging (ap (λ (hs : List (Option Hanging)). slice_get hs child) (sym is) ∙ at) in
      subst (IsHangingSoFar nodes 0 child) none (λ parent x less has. omega (arith, less));
}
  where
    none-at : (n child : ℕ) (hanging : Option Hanging) → slice_get (replicate n None) child ≡ Some hanging → None ≡ hanging
    none-at zero child hanging at = absurd cc
    none-at (suc n) zero hanging at = cc
    none-at (suc n) (suc child) hanging at = none-at n child hanging at

half-step : (p q : ℕ) (x y : Bool) → 2 * p + bit x ≡ 2 * q + bit y → (p ≡ q) × (x ≡ y)
half-step p q true true is = (omega arith, refl)
half-step p q false false is = (omega arith, refl)
half-step p q true false is = absurd (omega arith)
half-step p q false true is = absurd (omega arith)

-- one more place for a child was looked at
pub so_far-more : (nodes : List TreeNode) (tree : IsTree nodes) (seen parent : ℕ) (x : Bool) (node : TreeNode) (hangings : List (Option Hanging)) →
    slice_get nodes parent ≡ Some node → seen ≡ 2 * parent + bit x → HangingsSoFar nodes seen hangings →
    HangingsSoFar nodes (suc seen) (hung (child_by x node) (record { parent = parent; letter = x }) hangings)
so_far-more nodes tree seen parent x node hangings there is so_far = pick (child_by x node) refl
  where
    here : Hanging
    here = record { parent = parent; letter = x }

    found : (j : ℕ) → child_by x node ≡ Some j → HasChild nodes parent x j
    found j at = record { node = node; there = there; is_child = at }

    -- a child that isn't this one is nobody's or hangs where it hung
    kept : (child : ℕ) (hanging : Option Hanging) → (child_by x node ≡ Some child → ⊥) → IsHangingSoFar nodes seen child hanging →
        IsHangingSoFar nodes (suc seen) child hanging
    kept child None other before = λ p y less has. elim (cases_lt (2 * p + bit y) seen) as (λ _. ⊥) [
      | inl earlier ↦ before p y earlier has
      | inr late ↦
          let same = half-step p parent y x (omega (arith, less, late, is)) in
          let is_node : has.node ≡ node = some (sym has.there ∙ ap (slice_get nodes) same.0 ∙ there) in
          other (ap (child_by x) (sym is_node) ∙ ap (λ (z : Bool). child_by z has.node) (sym same.1) ∙ has.is_child)
    ]
    kept child (Some hanging) other before = before

    pick : (child : Option ℕ) → child_by x node ≡ child → HangingsSoFar nodes (suc seen) (hung child here hangings)
    pick None at = record {
      long = so_far.long;
      each = λ child hanging on. kept child hanging (λ named. absurd cc) (so_far.each child hanging on);
    }
    pick (Some j) at =
        let has = found j at in
        let inside : j < length hangings = omega (arith, child-before nodes tree parent j x has, parent-inside nodes tree parent j x has, so_far.long) in
        let is_set : hung (Some j) here hangings ≡ slice_set hangings j (Some here) =
        ap (λ (b : Bool). cond b (slice_set hangings j (Some here)) hangings) (lt-ltb j (length hangings) inside) in
        subst (HangingsSoFar nodes (suc seen)) (sym is_set) (record {
          long = length-set hangings j (Some here) ∙ so_far.long;
          each = λ child hanging on. elim (cases_eq child j) as (λ _. IsHangingSoFar nodes (suc seen) child hanging) [
            | inl same ↦
                let is_here : Some here ≡ hanging =
                some (sym (get-set hangings j (Some here) inside) ∙ ap (slice_get (slice_set hangings j (Some here))) (sym same) ∙ on) in
                subst (IsHangingSoFar nodes (suc seen) child) is_here (subst (HasChild nodes parent x) (sym same) has)
            | inr other ↦ kept child hanging (λ named. other (some (sym named ∙ at)))
                (so_far.each child hanging (sym (get-set_other hangings j child (Some here) other) ∙ on))
          ];
        })

pub so_far-end : (nodes : List TreeNode) (tree : IsTree nodes) (seen : ℕ) (hangings : List (Option Hanging)) → seen ≡ 2 * length nodes →
    HangingsSoFar nodes seen hangings → AreHangings nodes hangings
so_far-end nodes tree seen hangings all so_far = record {
  long = so_far.long;
  each = λ child hanging at. whole child hanging (so_far.each child hanging at);
}
  where
    bit-small : (x : Bool) → bit x ≤ 1
    bit-small true = omega arith
    bit-small false = omega arith

    whole : (child : ℕ) (hanging : Option Hanging) → IsHangingSoFar nodes seen child hanging → IsHanging nodes child hanging
    whole child None before = λ parent x has. before parent x (omega (arith, bit-small x, parent-inside nodes tree parent child x has, all)) has
    whole child (Some hanging) has = has

-- ---- what the tree has at a position

find_node : (nodes : List TreeNode) (k : ℕ) → k < length nodes → (node : TreeNode) × (slice_get nodes k ≡ Some node)
find_node [] k inside = absurd (omega arith)
find_node (n ∷ nodes) zero inside = (n, refl)
find_node (n ∷ nodes) (suc k) inside = find_node nodes k (omega arith)

-- a node at a position, with a track
pub record HasBit (nodes : List TreeNode) (t : ℕ) (p : Position) : Type 0 where
  pub place : ℕ
  pub node : TreeNode
  pub there : slice_get nodes place ≡ Some node
  pub stands : StandsAt nodes place p
  pub bit : IsTrue (label_of node.tracks t)

module _ (nodes : List TreeNode) (tree : IsTree nodes) (t : ℕ) where
  pub label-position : (k : ℕ) (node : TreeNode) (p : Position) → slice_get nodes k ≡ Some node → StandsAt nodes k p →
      assignment_of nodes t p ≡ label_of node.tracks t
  label-position k node p at stands =
      ap (assignment_of nodes t) (sym (append-nil p)) ∙ below-position nodes tree k p stands t [] ∙ (λ i. label-at nodes k node at i t)

  has_bit-child : (child : Option ℕ) (p q : Position) → ((j : ℕ) → child ≡ Some j → (j < length nodes) × StandsAt nodes j p) →
      ((j : ℕ) → j < length nodes → StandsAt nodes j p → IsTrue (assignment_at nodes j t q) → HasBit nodes t (p ++ q)) →
      IsTrue (child_at nodes child t q) → HasBit nodes t (p ++ q)
  has_bit-child None p q under below bit = absurd (true≢false (sym bit))
  has_bit-child (Some j) p q under below bit = let there = under j refl in below j there.0 there.1 bit

  has_bit-at : (k : ℕ) (p q : Position) → k < length nodes → StandsAt nodes k p → IsTrue (assignment_at nodes k t q) → HasBit nodes t (p ++ q)
  has_bit-at k p [] inside stands bit =
      let found = find_node nodes k inside in
      record {
        place = k;
        node = found.0;
        there = found.1;
        stands = subst (StandsAt nodes k) (sym (append-nil p)) stands;
        bit = sym (λ i. label-at nodes k found.0 found.1 i t) ∙ bit;
      }
  has_bit-at k p (false ∷ q) inside stands bit =
      let found = find_node nodes k inside in
      let below = has_bit-child (found.0).left (p ++ false ∷ []) q
      (λ j at. (omega (arith, if_some (λ i. i < k) (found.0).left j at (tree.left_before k found.0 found.1)), at_left k j found.0 p stands found.1 at))
      (λ j there below at. has_bit-at j (p ++ false ∷ []) q there below at)
      (sym (λ i. left-at nodes k found.0 tree found.1 i t q) ∙ bit) in
      subst (HasBit nodes t) (append_assoc p (false ∷ []) q) below
  has_bit-at k p (true ∷ q) inside stands bit =
      let found = find_node nodes k inside in
      let below = has_bit-child (found.0).right (p ++ true ∷ []) q
      (λ j at. (omega (arith, if_some (λ i. i < k) (found.0).right j at (tree.right_before k found.0 found.1)), at_right k j found.0 p stands found.1 at))
      (λ j there below at. has_bit-at j (p ++ true ∷ []) q there below at)
      (sym (λ i. right-at nodes k found.0 tree found.1 i t q) ∙ bit) in
      subst (HasBit nodes t) (append_assoc p (true ∷ []) q) below

  -- a position that the tree has on the track is that of a node with the track
  pub has_bit : (p : Position) → IsTrue (assignment_of nodes t p) → HasBit nodes t p
  has_bit p bit = elim (cases_lt 0 (length nodes)) as (λ _. HasBit nodes t p) [
    | inl some ↦
        let last : suc (length nodes - 1) ≡ length nodes = omega arith in
        has_bit-at (length nodes - 1) [] p (omega arith) (at_root (length nodes - 1) last) bit
    | inr none ↦ absurd (empty nodes (omega arith) bit)
  ]
    where
      empty : (ms : List TreeNode) → length ms ≡ 0 → IsTrue (assignment_of ms t p) → ⊥
      empty [] long bit = true≢false (sym bit)
      empty (m ∷ ms) long bit = absurd (omega arith)
