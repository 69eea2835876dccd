-- A node stands at one position, and at a position stands one node.
use Rattle.std.proofs.Common.{◌≡◌, ℕ, zero, suc, ◌+◌, ◌<◌, Bool, true, false, List, [], ◌∷◌, ◌++◌, length, slice_get, Option, Some, None, refl, sym, ap, ◌∙◌}
use Rattle.std.proofs.Common.{subst, arith}
use Rattle.std.specs.Option.{option_and_then}
use Rattle.std.proofs.lemmas.Option.{slice_get_within, same_Some}
use Rattle.store_core.proofs.FittingLemmas.{IfSome-at}
use Rattle.gta_theory.specs.Assignments.{Position}
use Rattle.ws2s_core.specs.declared.label_tree.TreeNode.{TreeNode}
use Rattle.ws2s_core.specs.LabelTrees.{IsTree, times_named}
use Rattle.ws2s_theory.specs.Trees.{StandsAt, at_root, at_left, at_right}
use Rattle.ws2s_theory.proofs.JoiningLemmas.{hits, hits-same, times-cons}

-- the child of a node to the left or to the right
abbrev pub child_to : Bool → TreeNode → Option ℕ
child_to false y = y.left
child_to true y = y.right

-- ---- a child has one parent

hits-named : (o : Option ℕ) (j : ℕ) → o ≡ Some j → hits o j ≡ 1
hits-named o j is = ap (λ (x : Option ℕ). hits x j) is ∙ hits-same j j refl

named-here : (y : TreeNode) (xs : List TreeNode) (b : Bool) (j : ℕ) → child_to b y ≡ Some j → 0 < times_named (y ∷ xs) j
named-here y xs false j is = let h = hits-named y.left j is in let e = times-cons y xs j in omega arith
named-here y xs true j is = let h = hits-named y.right j is in let e = times-cons y xs j in omega arith

named-there : (xs : List TreeNode) (k : ℕ) (y : TreeNode) (b : Bool) (j : ℕ) → slice_get xs k ≡ Some y → child_to b y ≡ Some j → 0 < times_named xs j
named-there [] k y b j at is = absurd (cc)
named-there (x ∷ xs) zero y b j at is = named-here x xs b j (ap (child_to b) (same_Some x y at) ∙ is)
named-there (x ∷ xs) (suc k) y b j at is = let rest = named-there xs k y b j at is in let e = times-cons x xs j in omega arith

twice-here : (y : TreeNode) (xs : List TreeNode) (b c : Bool) (j : ℕ) → child_to b y ≡ Some j → child_to c y ≡ Some j → times_named (y ∷ xs) j ≡ 1 → b ≡ c
twice-here y xs false false j one other once = refl
twice-here y xs true true j one other once = refl
twice-here y xs false true j one other once =
    let l = hits-named y.left j one in let r = hits-named y.right j other in let e = times-cons y xs j in absurd (omega arith)
twice-here y xs true false j one other once =
    let l = hits-named y.left j other in let r = hits-named y.right j one in let e = times-cons y xs j in absurd (omega arith)

hits-here : (y : TreeNode) (b : Bool) (j : ℕ) → child_to b y ≡ Some j → 0 < hits y.left j + hits y.right j
hits-here y false j is = let h = hits-named y.left j is in omega arith
hits-here y true j is = let h = hits-named y.right j is in omega arith

record IsSameChild (k m : ℕ) (b c : Bool) : Type 0 where
  place : k ≡ m
  side : b ≡ c

one-parent : (xs : List TreeNode) (k m : ℕ) (y z : TreeNode) (b c : Bool) (j : ℕ) → slice_get xs k ≡ Some y → slice_get xs m ≡ Some z →
    child_to b y ≡ Some j → child_to c z ≡ Some j → times_named xs j ≡ 1 → IsSameChild k m b c
one-parent [] k m y z b c j at_k at_m one other once = absurd (cc)
one-parent (x ∷ xs) zero zero y z b c j at_k at_m one other once =
    record { place = refl; side = twice-here x xs b c j (ap (child_to b) (same_Some x y at_k) ∙ one) (ap (child_to c) (same_Some x z at_m) ∙ other) once }
one-parent (x ∷ xs) zero (suc m) y z b c j at_k at_m one other once =
    let here = hits-here x b j (ap (child_to b) (same_Some x y at_k) ∙ one) in
    let there = named-there xs m z c j at_m other in
    let e = times-cons x xs j in absurd (omega arith)
one-parent (x ∷ xs) (suc k) zero y z b c j at_k at_m one other once =
    let here = hits-here x c j (ap (child_to c) (same_Some x z at_m) ∙ other) in
    let there = named-there xs k y b j at_k one in
    let e = times-cons x xs j in absurd (omega arith)
one-parent (x ∷ xs) (suc k) (suc m) y z b c j at_k at_m one other once =
    let there = named-there xs k y b j at_k one in
    let e = times-cons x xs j in
    let rest : times_named xs j ≡ 1 = omega arith in
    let same = one-parent xs k m y z b c j at_k at_m one other rest in
    record { place = ap (λ n. suc n) same.place; side = same.side }

-- ---- positions and nodes

module _ (nodes : List TreeNode) (tree : IsTree nodes) where
  child-before : (k : ℕ) (y : TreeNode) (b : Bool) (j : ℕ) → slice_get nodes k ≡ Some y → child_to b y ≡ Some j → suc j < length nodes
  child-before k y false j at is =
      let here = slice_get_within nodes k y at in
      let before = IfSome-at y.left (λ c. c < k) j is (tree.left_before k y at) in omega arith
  child-before k y true j at is =
      let here = slice_get_within nodes k y at in
      let before = IfSome-at y.right (λ c. c < k) j is (tree.right_before k y at) in omega arith

  -- how a node comes to stand where it does
  data Way (k : ℕ) (p : Position) : Type 0 where
    by_root : suc k ≡ length nodes → p ≡ [] → Way k p
    by_child : (m : ℕ) (y : TreeNode) (b : Bool) (q : Position) → StandsAt nodes m q → slice_get nodes m ≡ Some y → child_to b y ≡ Some k → p ≡ q ++ b ∷
        [] → Way k p

  way : (k : ℕ) (p : Position) → StandsAt nodes k p → Way k p
  way _ _ (at_root k last) = by_root last refl
  way _ _ (at_left k j y p above at is) = by_child k y false p above at is refl
  way _ _ (at_right k j y p above at is) = by_child k y true p above at is refl

  -- both are children: of one parent, to one side
  child-one : (j k : ℕ) (y : TreeNode) (b : Bool) (p q : Position) → slice_get nodes k ≡ Some y → child_to b y ≡ Some j →
      ((r : Position) → StandsAt nodes k r → p ≡ r) → Way j q → p ++ b ∷ [] ≡ q
  child-one j k y b p q at is parent (by_root l e) = let before = child-before k y b j at is in absurd (omega arith)
  child-one j k y b p q at is parent (by_child m z c r below there other e) =
      let before = child-before k y b j at is in
      let same = one-parent nodes k m y z b c j at there is other (tree.once j (omega arith)) in
      let parents = parent r (subst (λ n. StandsAt nodes n r) (sym same.place) below) in
      (λ i. parents i ++ same.side i ∷ []) ∙ sym e

  root-one : (k : ℕ) (q : Position) → suc k ≡ length nodes → Way k q → [] ≡ q
  root-one k q last (by_root l e) = sym e
  root-one k q last (by_child m y b r above at is e) = let before = child-before m y b k at is in absurd (omega arith)

  pub one-position : (k : ℕ) (p q : Position) → StandsAt nodes k p → StandsAt nodes k q → p ≡ q
  one-position _ _ q (at_root k last) also = root-one k q last (way k q also)
  one-position _ _ q (at_left k j y p above at is) also =
      child-one j k y false p q at is (λ r below. one-position k p r above below) (way j q also)
  one-position _ _ q (at_right k j y p above at is) also =
      child-one j k y true p q at is (λ r below. one-position k p r above below) (way j q also)

-- where one comes to along a position
module _ (nodes : List TreeNode) where
  child_of_place : Bool → ℕ → Option ℕ
  child_of_place b k = option_and_then (child_to b) (slice_get nodes k)

  along : Position → ℕ → Option ℕ
  along [] k = Some k
  along (b ∷ p) k = option_and_then (along p) (child_of_place b k)

  along-more : (p : Position) (b : Bool) (k m : ℕ) (j : ℕ) → along p k ≡ Some m → child_of_place b m ≡ Some j → along (p ++ b ∷ []) k ≡ Some j
  unfolding along
  along-more [] b k m j to is = ap (option_and_then (λ n. Some n)) (ap (child_of_place b) (same_Some k m to) ∙ is)
  along-more (c ∷ p) b k m j to is = by (λ n e. along-more p b n m j e is) (child_of_place c k) to
    where
      by : ((n : ℕ) → along p n ≡ Some m → along (p ++ b ∷ []) n ≡ Some j) → (o : Option ℕ) → option_and_then (along p) o ≡ Some m →
          option_and_then (along (p ++ b ∷ [])) o ≡ Some j
      by rest None e = absurd (cc)
      by rest (Some n) e = rest n e

  along-stands : (r : ℕ) → suc r ≡ length nodes → (k : ℕ) (p : Position) → StandsAt nodes k p → along p r ≡ Some k
  unfolding along child_of_place
  along-stands r top _ _ (at_root k last) = let same : r ≡ k = omega arith in ap (λ n. Some n) same
  along-stands r top _ _ (at_left k j y p above at is) =
      along-more p false r k j (along-stands r top k p above) (ap (option_and_then (child_to false)) at ∙ is)
  along-stands r top _ _ (at_right k j y p above at is) =
      along-more p true r k j (along-stands r top k p above) (ap (option_and_then (child_to true)) at ∙ is)

has-root : (nodes : List TreeNode) (k : ℕ) (p : Position) → StandsAt nodes k p → (r : ℕ) × (suc r ≡ length nodes)
has-root nodes _ _ (at_root k last) = (k, last)
has-root nodes _ _ (at_left k j y p above at is) = has-root nodes k p above
has-root nodes _ _ (at_right k j y p above at is) = has-root nodes k p above

pub one-node : (nodes : List TreeNode) (k m : ℕ) (p : Position) → StandsAt nodes k p → StandsAt nodes m p → k ≡ m
one-node nodes k m p one other =
    let root = has-root nodes k p one in
    same_Some k m (sym (along-stands nodes root.0 root.1 k p one) ∙ along-stands nodes root.0 root.1 m p other)
