-- Lists of shapes while a shape comes.
use Rattle.std.proofs.Common.{◌≡◌, ◌≢◌, ◌⊎◌, ℕ, ◌<◌, ◌≤◌, List, [], ◌∷◌, ◌++◌, length, get_or, set, Option, Some, None, slice_get, slice_index}
use Rattle.std.proofs.Common.{refl, sym, ◌∙◌, ap, subst, inl, inr, arith, length-append, get_or-set_same, get_or-set_other}
use Rattle.std.specs.Prelude.{replicate}
use Rattle.std.proofs.lemmas.Bool.{cases_eq, cases_lt}
use Rattle.std.proofs.lemmas.List.{length-set, length-replicate, get_or-replicate, get_or_push}
use Rattle.std.proofs.lemmas.Option.{slice_get_within, unwrap_or-slice_get}
use Rattle.std.proofs.Math.ListN.{get_or-append}
use Rattle.labels.specs.Labels.{empty_label}
use Rattle.gta_theory.proofs.ListedLemmas.{slice_get-front, slice_get-push}
use Rattle.bdd_nodes.specs.declared.node_ref.NodeRef.{NodeRef}
use Rattle.bdd_nodes.specs.Shelf.{Contents}
use Rattle.bdd_nodes.specs.Changes.{Keeps}
use Rattle.gta_theory.specs.Guides.{Spaces, IsGuide, IsSpace, left, right}
use Rattle.ws2s_core.specs.declared.track.Track.{Track}
use Rattle.ws2s_core.specs.declared.label_tree.TreeNode.{TreeNode}
use Rattle.ws2s_core.specs.LabelTrees.{IsTree}
use Rattle.ws2s_core.specs.Nodes.{AddsAtMost}
use Rattle.gta_core.proofs.AcceptingLemmas.{child-before}
use Rattle.gta_core.proofs.CellsLemmas.{get-index}
use Rattle.gta_pinned.specs.declared.shapes.Shape.{Shape}
use Rattle.gta_pinned.specs.Shapes.{Tells, AreListed, IsShaped, IsShape, AreShapes, KeepsShapes, shapes_in}
use Rattle.gta_pinned.specs.States.{child_state, IsNodeState, AreStates, AreOfTree}
use Rattle.gta_pinned.proofs.TellsLemmas.{Tells-kept}

-- the shapes of a space that changed, and those of others
shapes_in-get : (lists : List (List Shape)) (s : ℕ) → shapes_in lists s ≡ get_or lists s []
shapes_in-get lists s = unwrap_or-slice_get lists s []

shapes_in-same : (lists : List (List Shape)) (s : ℕ) (shapes : List Shape) → s < length lists → shapes_in (set lists s shapes) s ≡ shapes
shapes_in-same lists s shapes inside = shapes_in-get (set lists s shapes) s ∙ get_or-set_same lists s shapes [] inside

shapes_in-other : (lists : List (List Shape)) (s i : ℕ) (shapes : List Shape) → i ≢ s → shapes_in (set lists s shapes) i ≡ shapes_in lists i
shapes_in-other lists s i shapes other = shapes_in-get (set lists s shapes) i ∙ get_or-set_other lists s i shapes [] other ∙ sym (shapes_in-get lists i)

-- a list to which a shape may have come
adds-kept : (old new : List Shape) (shape : Shape) → AddsAtMost old shape new → (k : ℕ) (x : Shape) → slice_get old k ≡ Some x → slice_get new k ≡ Some x
adds-kept old new shape (inl same) k x at = ap (λ (xs : List Shape). slice_get xs k) same ∙ at
adds-kept old new shape (inr more) k x at =
    ap (λ (xs : List Shape). slice_get xs k) more ∙ slice_get-front old (shape ∷ []) k (slice_get_within old k x at) ∙ at

adds-cases : (old new : List Shape) (shape : Shape) → AddsAtMost old shape new → (k : ℕ) (x : Shape) → slice_get new k ≡ Some x →
    (slice_get old k ≡ Some x) ⊎ (shape ≡ x)
adds-cases old new shape (inl same) k x at = inl (ap (λ (xs : List Shape). slice_get xs k) (sym same) ∙ at)
adds-cases old new shape (inr more) k x at = elim (slice_get-push old shape x k (ap (λ (xs : List Shape). slice_get xs k) (sym more) ∙ at)) [
  | inl before ↦ inl before
  | inr last ↦ inr last.1
]

adds-longer : (old new : List Shape) (shape : Shape) → AddsAtMost old shape new → length old ≤ length new
adds-longer old new shape (inl same) = let e = ap (λ (xs : List Shape). length xs) same in omega arith
adds-longer old new shape (inr more) = let e = ap (λ (xs : List Shape). length xs) more in omega (arith, length-append old (shape ∷ []))

KeepsShapes-refl : (lists : List (List Shape)) → KeepsShapes lists lists
KeepsShapes-refl lists = record { kept = λ s k shape at. at }

-- a shape comes in a space
module _ (g : Spaces) (old new : Contents) (keeps : Keeps old new) (tracks : List ℕ) (lists : List (List Shape)) (shapes : AreShapes g old tracks lists)
    (s : ℕ) (inside : IsSpace g s) (shape : Shape) (now : List Shape) (adds : AddsAtMost (shapes_in lists s) shape now) where
  abbrev changed : List (List Shape)
  changed = set lists s now

  in-lists : s < length lists
  in-lists = let i = inside in let m = shapes.many in omega arith

  pub now-there : shapes_in changed s ≡ now
  now-there = shapes_in-same lists s now in-lists

  pub KeepsShapes-more : KeepsShapes lists changed
  KeepsShapes-more = record {
    kept = λ i k x at. elim (cases_eq i s) [
      | inl same ↦
          ap (λ (j : ℕ). slice_get (shapes_in changed j) k) same ∙ ap (λ (xs : List Shape). slice_get xs k) now-there
          ∙ adds-kept (shapes_in lists s) now shape adds k x (ap (λ (j : ℕ). slice_get (shapes_in lists j) k) (sym same) ∙ at)
      | inr other ↦ ap (λ (xs : List Shape). slice_get xs k) (shapes_in-other lists s i now other) ∙ at
    ];
  }

  longer : (i : ℕ) → length (shapes_in lists i) ≤ length (shapes_in changed i)
  longer i = elim (cases_eq i s) [
    | inl same ↦ (
        let e = ap (λ (xs : List Shape). length xs) (ap (shapes_in changed) same ∙ now-there) in
        let f = ap (λ (j : ℕ). length (shapes_in lists j)) same in
        omega (arith, adds-longer (shapes_in lists s) now shape adds)
        )
    | inr other ↦ (let e = ap (λ (xs : List Shape). length xs) (shapes_in-other lists s i now other) in omega arith)
  ]

  still-shaped : (i q : ℕ) → IsShaped lists i q → IsShaped changed i q
  still-shaped i q is = (is.0, (let top = is.1 in omega (arith, longer i)))

  module _ (listed : AreListed now) (is_shape : IsShape g new tracks lists s shape) where
    pub AreShapes-more : AreShapes g new tracks changed
    AreShapes-more = record {
      many = length-set lists s now ∙ shapes.many;
      empty = λ i there.
          let first = shapes.empty i there in
          record {
            shape = first.shape;
            there = KeepsShapes-more.kept i 0 first.shape first.there;
            left = first.left;
            right = first.right;
            tells = Tells-kept old new tracks empty_label first.shape.test keeps first.tells;
          };
      each = λ i k x there at.
          let was : IsShape g old tracks lists i x → IsShape g new tracks changed i x = λ of_x. record {
            known = of_x.known;
            tells = Tells-kept old new tracks of_x.known x.test keeps of_x.tells;
            left = still-shaped (left g i) x.left of_x.left;
            right = still-shaped (right g i) x.right of_x.right;
          } in
          elim (cases_eq i s) [
            | inl same ↦ elim (adds-cases (shapes_in lists s) now shape adds k x
                (ap (λ (xs : List Shape). slice_get xs k) (sym now-there) ∙ ap (λ (j : ℕ). slice_get (shapes_in changed j) k) (sym same) ∙ at)) [
                  | inl before ↦ was (shapes.each i k x there (ap (λ (j : ℕ). slice_get (shapes_in lists j) k) same ∙ before))
                  | inr came ↦
                      subst (λ (y : Shape). IsShape g new tracks changed i y) came
                      (subst (λ (j : ℕ). IsShape g new tracks changed j shape) (sym same) (record {
                        known = is_shape.known;
                        tells = is_shape.tells;
                        left = still-shaped (left g s) shape.left is_shape.left;
                        right = still-shaped (right g s) shape.right is_shape.right;
                      }))
                ]
            | inr other ↦ was (shapes.each i k x there (ap (λ (xs : List Shape). slice_get xs k) (sym (shapes_in-other lists s i now other)) ∙ at))
          ];
      listed = λ i there. elim (cases_eq i s) [
        | inl same ↦ subst AreListed (sym (ap (shapes_in changed) same ∙ now-there)) listed
        | inr other ↦ subst AreListed (sym (shapes_in-other lists s i now other)) (shapes.listed i there)
      ];
    }

-- the shapes of the empty tree alone
module _ (g : Spaces) (shelf : Contents) (tracks : List ℕ) (test : NodeRef) (tells : Tells shelf tracks empty_label test) where
  abbrev empty : Shape
  empty = record { left = 1; right = 1; test = test }

  abbrev alone : List (List Shape)
  alone = replicate (length g) (empty ∷ [])

  in-alone : (s : ℕ) → IsSpace g s → shapes_in alone s ≡ empty ∷ []
  in-alone s there = shapes_in-get alone s ∙ get_or-replicate (length g) s (empty ∷ []) [] there

  shaped-alone : (s : ℕ) → IsSpace g s → IsShaped alone s 1
  shaped-alone s there = let e = ap (λ (xs : List Shape). length xs) (in-alone s there) in (omega arith, omega arith)

  first-alone : (s k : ℕ) (shape : Shape) → IsSpace g s → slice_get (shapes_in alone s) k ≡ Some shape → (k ≡ 0) × (empty ≡ shape)
  first-alone s k shape there at = elim (slice_get-push [] empty shape k (ap (λ (xs : List Shape). slice_get xs k) (sym (in-alone s there)) ∙ at)) [
    | inl none ↦ absurd (let e : ◌≡◌ {A = Option Shape} None (Some shape) = none in cc)
    | inr last ↦ last
  ]

  pub AreShapes-alone : IsGuide g → AreShapes g shelf tracks alone
  AreShapes-alone guide = record {
    many = length-replicate (length g) (empty ∷ []);
    empty = λ s there. record {
      shape = empty;
      there = ap (λ (xs : List Shape). slice_get xs 0) (in-alone s there);
      left = refl;
      right = refl;
      tells = tells;
    };
    each = λ s k shape there at. subst (λ (x : Shape). IsShape g shelf tracks alone s x) (first-alone s k shape there at).1 (record {
      known = empty_label;
      tells = tells;
      left = shaped-alone (left g s) (guide.left_inside s there);
      right = shaped-alone (right g s) (guide.right_inside s there);
    });
    listed = λ s there. record {
      once = λ i j shape at_i at_j. (first-alone s i shape there at_i).0 ∙ sym (first-alone s j shape there at_j).0;
      few = let e = ap (λ (xs : List Shape). length xs) (in-alone s there) in omega arith;
    };
  }

-- the states of nodes
module _ (old new : Contents) (keeps : Keeps old new) (tracks : List ℕ) (lists changed : List (List Shape)) (kept : KeepsShapes lists changed) where
  IsNodeState-kept : (s : ℕ) (states more : List ℕ) (node : TreeNode) (q : ℕ) →
      (child_state more node.left ≡ child_state states node.left) → (child_state more node.right ≡ child_state states node.right) →
      IsNodeState old tracks (shapes_in lists s) states node q → IsNodeState new tracks (shapes_in changed s) more node q
  IsNodeState-kept s states more node q same_left same_right is = record {
    shape = is.shape;
    is = record { place = is.is.place; is = is.is.is; there = kept.kept s is.is.place is.shape is.is.there };
    left = is.left ∙ sym same_left;
    right = is.right ∙ sym same_right;
    tells = Tells-kept old new tracks _ is.shape.test keeps is.tells;
  }

child-push : (states : List ℕ) (q k : ℕ) (child : Option ℕ) → k ≤ length states → ((j : ℕ) → child ≡ Some j → j < k) →
    child_state (states ++ q ∷ []) child ≡ child_state states child
child-push states q k None le before = refl
child-push states q k (Some j) le before = get_or-append states (q ∷ []) 0 j (let b = before j refl in omega arith)

module _ (nodes : List TreeNode) (tree : IsTree nodes) where
  -- one state more
  pub AreStates-push : (old new : Contents) → Keeps old new → (tracks : List ℕ) (lists changed : List (List Shape)) → KeepsShapes lists changed →
      (spaces states : List ℕ) (q : ℕ) (node : TreeNode) → slice_get nodes (length states) ≡ Some node → AreStates old tracks lists nodes spaces states →
      IsNodeState new tracks (shapes_in changed (slice_index spaces (length states))) states node q →
      AreStates new tracks changed nodes spaces (states ++ q ∷ [])
  AreStates-push old new keeps tracks lists changed kept spaces states q node at are is = record {
    each = λ k other inside there. elim (cases_lt k (length states)) [
      | inl before ↦
          let last = length states in
          subst (λ (p : ℕ). IsNodeState new tracks (shapes_in changed (slice_index spaces k)) (states ++ q ∷ []) other p)
          (sym (get_or-append states (q ∷ []) 0 k before))
          (IsNodeState-kept old new keeps tracks lists changed kept (slice_index spaces k) states (states ++ q ∷ []) other (slice_index states k)
          (child-push states q k other.left (omega arith) (λ j c. child-before nodes tree k j other there (inl c)))
          (child-push states q k other.right (omega arith) (λ j c. child-before nodes tree k j other there (inr c)))
          (are.each k other before there))
      | inr not_before ↦ (
          let e : length states ≡ k = omega (arith, length-append states (q ∷ [])) in
          let f : ◌≡◌ {A = Option TreeNode} (Some node) (Some other) = sym at ∙ ap (slice_get nodes) e ∙ there in
          let same : node ≡ other = cc in
          let last = length states in
          let whole : IsNodeState new tracks (shapes_in changed (slice_index spaces last)) (states ++ q ∷ []) node (slice_index (states ++ q ∷ []) last) =
          subst (λ (p : ℕ). IsNodeState new tracks (shapes_in changed (slice_index spaces last)) (states ++ q ∷ []) node p)
          (sym (get_or_push states q 0 last refl)) (record {
            shape = is.shape;
            is = is.is;
            left = is.left ∙ sym (child-push states q last node.left (omega arith) (λ j c. child-before nodes tree last j node at (inl c)));
            right = is.right ∙ sym (child-push states q last node.right (omega arith) (λ j c. child-before nodes tree last j node at (inr c)));
            tells = is.tells;
          }) in
          let more = states ++ q ∷ [] in
          subst (λ (n : TreeNode). IsNodeState new tracks (shapes_in changed (slice_index spaces k)) more n (slice_index more k)) same
          (subst (λ (m : ℕ). IsNodeState new tracks (shapes_in changed (slice_index spaces m)) more node (slice_index more m)) e whole)
          )
    ];
  }

  -- the states of a node's children are those of shapes of the child spaces
  pub child-shaped : (g : Spaces) (shelf : Contents) (tracks : List ℕ) (lists : List (List Shape)) → AreShapes g shelf tracks lists → (spaces states : List ℕ) →
      AreStates shelf tracks lists nodes spaces states → (child : Option ℕ) (s : ℕ) → IsSpace g s →
      ((j : ℕ) → child ≡ Some j → (j < length states) × (j < length nodes) × (slice_index spaces j ≡ s)) → IsShaped lists s (child_state states child)
  child-shaped g shelf tracks lists shapes spaces states are None s there of_child =
      let first = shapes.empty s there in
      (omega arith, (let w = slice_get_within (shapes_in lists s) 0 first.shape first.there in omega arith))
  child-shaped g shelf tracks lists shapes spaces states are (Some j) s there of_child =
      let here = of_child j refl in
      let node = get-index nodes j here.1 in
      let state = (are.each j node.0 here.0 node.1).is in
      let within = slice_get_within (shapes_in lists (slice_index spaces j)) state.place _ state.there in
      let e = ap (λ (m : ℕ). length (shapes_in lists m)) here.2 in
      ((let i = state.is in omega arith), (let i = state.is in omega arith))

-- nodes come, and the shapes stay
pub AreShapes-kept : (g : Spaces) (old new : Contents) → Keeps old new → (tracks : List ℕ) (lists : List (List Shape)) → AreShapes g old tracks lists →
    AreShapes g new tracks lists
AreShapes-kept g old new keeps tracks lists shapes = record {
  many = shapes.many;
  empty = λ s there.
      let first = shapes.empty s there in
      record {
        shape = first.shape;
        there = first.there;
        left = first.left;
        right = first.right;
        tells = Tells-kept old new tracks empty_label first.shape.test keeps first.tells;
      };
  each = λ s k shape there at.
      let was = shapes.each s k shape there at in
      record {
        known = was.known;
        tells = Tells-kept old new tracks was.known shape.test keeps was.tells;
        left = was.left;
        right = was.right;
      };
  listed = shapes.listed;
}

pub AreOfTree-kept : (g : Spaces) (old new : Contents) → Keeps old new → (tracks : List Track) (nodes : List TreeNode) (lists : List (List Shape)) (root : ℕ) →
    AreOfTree g old tracks nodes lists root → AreOfTree g new tracks nodes lists root
AreOfTree-kept g old new keeps tracks nodes lists root of_tree = record {
  guide = of_tree.guide;
  tree = of_tree.tree;
  rising = of_tree.rising;
  are_rising = of_tree.are_rising;
  shapes = AreShapes-kept g old new keeps of_tree.rising lists of_tree.shapes;
  spaces = of_tree.spaces;
  are_spaces = of_tree.are_spaces;
  states = of_tree.states;
  many = of_tree.many;
  are_states = record {
    each = λ k node inside at.
        IsNodeState-kept old new keeps of_tree.rising lists lists (KeepsShapes-refl lists) (slice_index of_tree.spaces k) of_tree.states of_tree.states node
        (slice_index of_tree.states k) refl refl (of_tree.are_states.each k node inside at);
  };
  is_root = of_tree.is_root;
}
