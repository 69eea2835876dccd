-- The spaces and the values of a tree's nodes.
use Rattle.std.proofs.Common.{◌≡◌, ◌⊎◌, ◌↔◌, ℕ, zero, suc, ◌+◌, ◌-◌, ◌<◌, ◌≤◌, Bool, IsTrue, List, [], ◌∷◌, ◌++◌, length, map, get_or, set}
use Rattle.std.proofs.Common.{Option, Some, None, IfSome, refl, sym, ◌∙◌, ap, subst, inl, inr, arith, length-append, get_or-set_same, get_or-set_other}
use Rattle.std.specs.Prelude.{slice_get, replicate, ◌==◌, ◌||◌}
use mathlib.Core.Path.{fun_ext}
use Rattle.std.proofs.lemmas.Bool.{cases_lt, cases_eq}
use Rattle.std.proofs.lemmas.List.{length-set, length-replicate, get_or_past, get_or_push}
use Rattle.std.proofs.lemmas.Option.{slice_get_within, get_or_from_slice_get}
use Rattle.std.proofs.Math.ListN.{get_or-append}
use Rattle.bdd_nodes.specs.Shelf as bdd
use Rattle.bdd_nodes.specs.Shelf.{Contents}
use Rattle.gta_theory.specs.Guides.{Spaces, IsGuide, IsSpace, left, right}
use Rattle.gta_theory.specs.Automata.{Automaton, IsStable, Accepts}
use Rattle.ws2s_core.specs.declared.track.Track.{Track}
use Rattle.ws2s_core.specs.declared.label_tree.TreeNode.{TreeNode}
use Rattle.ws2s_core.specs.LabelTrees.{IsTree, times_named, assignment_of}
use Rattle.ws2s_theory.specs.Trees.{label_of, last_place, value_at, child_value}
use Rattle.ws2s_theory.proofs.JoiningLemmas.{hits, hits-same, times-cons}
use Rattle.ws2s_theory.proofs.TreesLemmas.{value-step, Accepts-root}
use Rattle.gta_core.specs.Auto.{AutoView, initial_of, is_accepting, automaton_of}
use Rattle.gta_core.proofs.AutoLemmas.{past-none}
use Rattle.gta_core.specs.Accepting.{with_space, state_of_child, AreSpacesFrom, AreValues}

if_some : {X : Type 0} (P : X → Type 0) (o : Option X) (x : X) → o ≡ Some x → IfSome o P → P x
if_some P o x at holds = subst (λ (p : Option _). IfSome p P) at holds

pub IfSome-less : (o : Option ℕ) (k n : ℕ) → k ≤ n → IfSome o (λ j. j < k) → IfSome o (λ j. j < n)
IfSome-less None k n le less = tt
IfSome-less (Some j) k n le less = omega arith

-- how often a node names a place
names : TreeNode → ℕ → ℕ
names node j = hits node.left j + hits node.right j

names-le : (nodes : List TreeNode) (k j : ℕ) (node : TreeNode) → slice_get nodes k ≡ Some node → names node j ≤ times_named nodes j
unfolding names
names-le [] k j node at = absurd cc
names-le (n ∷ nodes) zero j node at =
    let same : n ≡ node = cc in
    let e = ap (λ (m : TreeNode). hits m.left j + hits m.right j) same in omega (arith, times-cons n nodes j)
names-le (n ∷ nodes) (suc k) j node at = omega (arith, times-cons n nodes j, names-le nodes k j node at)

names-two : (nodes : List TreeNode) (k i j : ℕ) (node other : TreeNode) → k < i → slice_get nodes k ≡ Some node → slice_get nodes i ≡ Some other →
    names node j + names other j ≤ times_named nodes j
unfolding names
names-two [] k i j node other less at_k at_i = absurd cc
names-two (n ∷ nodes) k zero j node other less at_k at_i = absurd (omega arith)
names-two (n ∷ nodes) zero (suc i) j node other less at_k at_i =
    let same : n ≡ node = cc in
    let e = ap (λ (m : TreeNode). hits m.left j + hits m.right j) same in
    omega (arith, times-cons n nodes j, names-le nodes i j other at_i)
names-two (n ∷ nodes) (suc k) (suc i) j node other less at_k at_i =
    omega (arith, times-cons n nodes j, names-two nodes k i j node other (omega arith) at_k at_i)

-- the place is that of a child of the node
abbrev pub IsChild : TreeNode → ℕ → Type 0
IsChild node j = (node.left ≡ Some j) ⊎ (node.right ≡ Some j)

hit : (child : Option ℕ) (j : ℕ) → child ≡ Some j → hits child j ≡ 1
hit child j at = ap (λ (o : Option ℕ). hits o j) at ∙ hits-same j j refl

names-child : (node : TreeNode) (j : ℕ) → IsChild node j → 1 ≤ names node j
unfolding names
names-child node j (inl at) = omega (arith, hit node.left j at)
names-child node j (inr at) = omega (arith, hit node.right j at)

-- children of a tree stand before their one parent
module _ (nodes : List TreeNode) (tree : IsTree nodes) where
  pub child-before : (k j : ℕ) (node : TreeNode) → slice_get nodes k ≡ Some node → IsChild node j → j < k
  child-before k j node at (inl child) = if_some (λ i. i < k) node.left j child (tree.left_before k node at)
  child-before k j node at (inr child) = if_some (λ i. i < k) node.right j child (tree.right_before k node at)

  once : (k j : ℕ) (node : TreeNode) → slice_get nodes k ≡ Some node → IsChild node j → times_named nodes j ≡ 1
  once k j node at child =
      tree.once j (omega (arith, child-before k j node at child, slice_get_within nodes k node at))

  one-parent : (k i j : ℕ) (node other : TreeNode) → k < i → slice_get nodes k ≡ Some node → slice_get nodes i ≡ Some other →
      IsChild node j → IsChild other j → ⊥
  one-parent k i j node other less at_k at_i of_node of_other =
      omega (arith, names-two nodes k i j node other less at_k at_i, once k j node at_k of_node, names-child node j of_node, names-child other j of_other)

  not-both : (k j : ℕ) (node : TreeNode) → slice_get nodes k ≡ Some node → node.left ≡ Some j → node.right ≡ Some j → ⊥
  unfolding names
  not-both k j node at on_left on_right =
      omega (arith, names-le nodes k j node at, once k j node at (inl on_left), hit node.left j on_left, hit node.right j on_right)

-- spaces are put in
pub length-with : (spaces : List ℕ) (child : Option ℕ) (s : ℕ) → length (with_space spaces child s) ≡ length spaces
length-with spaces None s = refl
length-with spaces (Some j) s = length-set spaces j s

with-same : (spaces : List ℕ) (child : Option ℕ) (s j : ℕ) → child ≡ Some j → j < length spaces → get_or (with_space spaces child s) j 0 ≡ s
with-same spaces child s j at inside =
    ap (λ (o : Option ℕ). get_or (with_space spaces o s) j 0) at ∙ get_or-set_same spaces j s 0 inside

with-other : (spaces : List ℕ) (child : Option ℕ) (s i : ℕ) → (child ≡ Some i → ⊥) → get_or (with_space spaces child s) i 0 ≡ get_or spaces i 0
with-other spaces None s i other = refl
with-other spaces (Some j) s i other = get_or-set_other spaces j i s 0 (λ e. other (ap (λ (k : ℕ). let o : Option ℕ = Some k in o) (sym e)))

abbrev pub zeros : ℕ → List ℕ
zeros n = replicate n 0

zero-at : (n k : ℕ) → get_or (zeros n) k 0 ≡ 0
zero-at zero k = refl
zero-at (suc n) zero = refl
zero-at (suc n) (suc k) = zero-at n k

module _ (g : Spaces) (guide : IsGuide g) (nodes : List TreeNode) (tree : IsTree nodes) where
  pub AreSpacesFrom-start : AreSpacesFrom g nodes (length nodes) (zeros (length nodes))
  AreSpacesFrom-start = record {
    many = length-replicate (length nodes) 0;
    inside = λ k. subst (IsSpace g) (sym (zero-at (length nodes) k)) guide.not_empty;
    root = λ k last. zero-at (length nodes) k;
    left = λ k j node from at child. absurd (omega (arith, slice_get_within nodes k node at));
    right = λ k j node from at child. absurd (omega (arith, slice_get_within nodes k node at));
  }

  -- the children of one node more
  module _ (k : ℕ) (spaces : List ℕ) (so_far : AreSpacesFrom g nodes (suc k) spaces) (node : TreeNode) (at : slice_get nodes k ≡ Some node) where
    abbrev here : ℕ
    here = get_or spaces k 0

    abbrev once_put : List ℕ
    once_put = with_space spaces node.left (left g here)

    abbrev pub put_both : List ℕ
    put_both = with_space once_put node.right (right g here)

    same : (i : ℕ) → (IsChild node i → ⊥) → get_or put_both i 0 ≡ get_or spaces i 0
    same i other =
        with-other once_put node.right (right g here) i (λ e. other (inr e)) ∙ with-other spaces node.left (left g here) i (λ e. other (inl e))

    inside-with : (xs : List ℕ) (child : Option ℕ) (s : ℕ) → IsSpace g s → ((i : ℕ) → IsSpace g (get_or xs i 0)) → (i : ℕ) →
        IsSpace g (get_or (with_space xs child s) i 0)
    inside-with xs None s there all i = all i
    inside-with xs (Some j) s there all i = elim (cases_eq j i) as (λ _. IsSpace g (get_or (set xs j s) i 0)) [
      | inl e ↦ elim (cases_lt j (length xs)) as (λ _. IsSpace g (get_or (set xs j s) i 0)) [
        | inl inside ↦ subst (λ (m : ℕ). IsSpace g (get_or (set xs j s) m 0)) e (subst (IsSpace g) (sym (get_or-set_same xs j s 0 inside)) there)
        | inr past ↦ subst (λ (m : ℕ). IsSpace g (get_or (set xs j s) m 0)) e
            (subst (IsSpace g) (sym (get_or_past (set xs j s) j 0 (omega (arith, length-set xs j s)))) guide.not_empty)
      ]
      | inr other ↦ subst (IsSpace g) (sym (get_or-set_other xs j i s 0 (λ e. other (sym e)))) (all i)
    ]

    pub AreSpacesFrom-put : AreSpacesFrom g nodes k put_both
    AreSpacesFrom-put = record {
      many = length-with once_put node.right (right g here) ∙ length-with spaces node.left (left g here) ∙ so_far.many;
      inside = inside-with once_put node.right (right g here) (guide.right_inside here (so_far.inside k))
          (inside-with spaces node.left (left g here) (guide.left_inside here (so_far.inside k)) so_far.inside);
      root = λ i last. same i (λ child. omega (arith, child-before nodes tree k i node at child, slice_get_within nodes k node at)) ∙ so_far.root i last;
      left = λ i j other from there child. elim (cases_lt k i) [
        | inl later ↦
            same j (λ of_node. one-parent nodes tree k i j node other later at there of_node (inl child))
            ∙ so_far.left i j other (omega arith) there child
            ∙ ap (left g) (sym (same i (λ c. omega (arith, child-before nodes tree k i node at c))))
        | inr not_later ↦ (
            let e : k ≡ i = omega arith in
            let of_node : node.left ≡ Some j = (let f : Some node ≡ Some other = sym at ∙ ap (slice_get nodes) e ∙ there in cc) in
            with-other once_put node.right (right g here) j (λ c. not-both nodes tree k j node at of_node c)
            ∙ with-same spaces node.left (left g here) j of_node
            (omega (arith, child-before nodes tree k j node at (inl of_node), slice_get_within nodes k node at, so_far.many))
            ∙ ap (left g) (sym (same k (λ c. omega (arith, child-before nodes tree k k node at c))) ∙ ap (λ (m : ℕ). get_or put_both m 0) e)
            )
      ];
      right = λ i j other from there child. elim (cases_lt k i) [
        | inl later ↦
            same j (λ of_node. one-parent nodes tree k i j node other later at there of_node (inr child))
            ∙ so_far.right i j other (omega arith) there child
            ∙ ap (right g) (sym (same i (λ c. omega (arith, child-before nodes tree k i node at c))))
        | inr not_later ↦ (
            let e : k ≡ i = omega arith in
            let of_node : node.right ≡ Some j = (let f : Some node ≡ Some other = sym at ∙ ap (slice_get nodes) e ∙ there in cc) in
            with-same once_put node.right (right g here) j of_node
            (omega (
              arith,
              child-before nodes tree k j node at (inr of_node),
              slice_get_within nodes k node at,
              so_far.many,
              length-with spaces node.left (left g here),
            ))
            ∙ ap (right g) (sym (same k (λ c. omega (arith, child-before nodes tree k k node at c))) ∙ ap (λ (m : ℕ). get_or put_both m 0) e)
            )
      ];
    }

-- the two words on labels are one
pub label-tracks : (tracks : List Track) → bdd.label_of (map (λ track. track.0) tracks) ≡ label_of tracks
label-tracks tracks = fun_ext (λ t. pick tracks t)
  where
    pick : (ts : List Track) (t : ℕ) → bdd.label_of (map (λ track. track.0) ts) t ≡ label_of ts t
    pick [] t = refl
    pick (x ∷ ts) t = ap (λ (b : Bool). (x.0 == t) || b) (pick ts t)

-- the last of the values, or another number where there are none
pub record IsLast (values : List ℕ) (state start : ℕ) : Type 0 where
  pub last : (k : ℕ) → suc k ≡ length values → state ≡ get_or values k 0
  pub empty : length values ≡ 0 → state ≡ start

pub IsLast-some : (values : List ℕ) (state start : ℕ) → Some state ≡ slice_get values (length values - 1) → IsLast values state start
IsLast-some values state start there =
    let inside = slice_get_within values (length values - 1) state (sym there) in
    record {
      last = λ k e.
          let f : length values - 1 ≡ k = omega arith in
          sym (get_or_from_slice_get values (length values - 1) state 0 (sym there)) ∙ ap (λ (m : ℕ). get_or values m 0) f;
      empty = λ none. absurd (omega arith);
    }

pub IsLast-none : (values : List ℕ) (start : ℕ) → None ≡ slice_get values (length values - 1) → IsLast values start start
IsLast-none values start none =
    let past = past-none values (length values - 1) (sym none) in
    record { last = λ k e. absurd (omega arith); empty = λ e. refl }

-- values
module _ (shelf : Contents) (a : AutoView) (g : Spaces) (guide : IsGuide g) (stable : IsStable g (automaton_of shelf a)) (nodes : List TreeNode)
    (tree : IsTree nodes) (spaces : List ℕ) (are_spaces : AreSpacesFrom g nodes 0 spaces) where
  abbrev A : Automaton ℕ
  A = automaton_of shelf a

  pub AreValues-none : AreValues g A nodes spaces []
  AreValues-none = record { each = λ k inside. absurd (omega arith) }

  child-is : (values : List ℕ) → AreValues g A nodes spaces values → (child : Option ℕ) (s : ℕ) →
      ((j : ℕ) → child ≡ Some j → (j < length values) × (get_or spaces j 0 ≡ s)) → state_of_child a values child s ≡ child_value g A s nodes child
  unfolding automaton_of
  child-is values so_far None s of_child = refl
  child-is values so_far (Some j) s of_child =
      let here = of_child j refl in
      so_far.each j here.0 ∙ ap (λ (m : ℕ). value_at g A m nodes j) here.1

  pub value-turn : (values : List ℕ) → AreValues g A nodes spaces values → (k : ℕ) (node : TreeNode) → k ≡ length values →
      slice_get nodes k ≡ Some node →
      A.step (get_or spaces k 0) (state_of_child a values node.left (left g (get_or spaces k 0)))
      (state_of_child a values node.right (right g (get_or spaces k 0))) (bdd.label_of (map (λ track. track.0) node.tracks))
      ≡ value_at g A (get_or spaces k 0) nodes k
  value-turn values so_far k node here at =
      let s = get_or spaces k 0 in
      let of_left = child-is values so_far node.left (left g s) (λ j child.
      (omega (arith, child-before nodes tree k j node at (inl child)), are_spaces.left k j node (omega arith) at child)) in
      let of_right = child-is values so_far node.right (right g s) (λ j child.
      (omega (arith, child-before nodes tree k j node at (inr child)), are_spaces.right k j node (omega arith) at child)) in
      (λ i. A.step s (of_left i) (of_right i) (label-tracks node.tracks i))
      ∙ sym (value-step g guide A stable nodes s k node (are_spaces.inside k) tree at)

  pub AreValues-push : (values : List ℕ) → AreValues g A nodes spaces values → (v : ℕ) →
      v ≡ value_at g A (get_or spaces (length values) 0) nodes (length values) → AreValues g A nodes spaces (values ++ v ∷ [])
  AreValues-push values so_far v is_value = record {
    each = λ k inside. elim (cases_lt k (length values)) [
      | inl before ↦ get_or-append values (v ∷ []) 0 k before ∙ so_far.each k before
      | inr not_before ↦
          let e : length values ≡ k = omega (arith, length-append values (v ∷ [])) in
          subst (λ (m : ℕ). get_or (values ++ v ∷ []) m 0 ≡ value_at g A (get_or spaces m 0) nodes m) e (get_or_push values v 0 (length values) refl ∙ is_value)
    ];
  }

  -- the root's value is that of the last node
  pub Accepts-last : (values : List ℕ) → AreValues g A nodes spaces values → length values ≡ length nodes → (state : ℕ) →
      IsLast values state (initial_of a 0) → IsTrue (is_accepting a state) ↔ Accepts g A (assignment_of nodes)
  unfolding automaton_of
  Accepts-last values are_values many state is_last =
      let is : state ≡ child_value g A 0 nodes (last_place 0 (length nodes)) = pick (length nodes) refl in
      let both = Accepts-root g guide A stable nodes in (
        λ accepting. both.1 (subst (λ (q : ℕ). IsTrue (A.accepting q)) is accepting),
        λ accepts. subst (λ (q : ℕ). IsTrue (A.accepting q)) (sym is) (both.0 accepts),
      )
    where
      pick : (n : ℕ) → length nodes ≡ n → state ≡ child_value g A 0 nodes (last_place 0 n)
      pick zero e = is_last.empty (omega arith)
      pick (suc n) e =
          let f : n ≡ 0 + n = omega arith in
          is_last.last n (omega arith) ∙ are_values.each n (omega arith) ∙ ap (λ (m : ℕ). value_at g A m nodes n) (are_spaces.root n (sym e))
          ∙ ap (λ (m : ℕ). value_at g A 0 nodes m) f
