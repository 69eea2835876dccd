-- The shapes of subtrees: what is the same of two subtrees that agree on some tracks. (The classes of Myhill and Nerode for one tree.)
use Rattle.std.specs.Prelude.{◌≡◌, ℕ, suc, ◌<◌, ◌≤◌, ◌^◌, List, [], length, Contains, slice_get, unwrap_or, Some}
use Rattle.labels.specs.Labels.{Label, empty_label}
use Rattle.bdd_nodes.specs.declared.node_ref.NodeRef.{NodeRef}
use Rattle.bdd_nodes.specs.Shelf.{Contents, IsValid, state_of}
use Rattle.gta_theory.specs.Guides.{Spaces, IsSpace, left, right}
use Rattle.gta_pinned.specs.declared.shapes.Shape.{Shape}

-- the two labels have the same of these tracks
abbrev pub AreSameOn : List ℕ → Label → Label → Type 0
AreSameOn tracks l m = (t : ℕ) → Contains tracks t → l t ≡ m t

-- the function is 1 at the labels that have, of these tracks, the same as the known one, and 0 at the others
pub record Tells (shelf : Contents) (tracks : List ℕ) (known : Label) (test : NodeRef) : Type 0 where
  pub valid : IsValid shelf test
  pub small : (label : Label) → state_of shelf test label < 2
  pub same : (label : Label) → AreSameOn tracks known label → state_of shelf test label ≡ 1
  pub only : (label : Label) → state_of shelf test label ≡ 1 → AreSameOn tracks known label

-- each shape once, and fewer than there are state numbers
pub record AreListed (shapes : List Shape) : Type 0 where
  pub once : (i j : ℕ) (shape : Shape) → slice_get shapes i ≡ Some shape → slice_get shapes j ≡ Some shape → i ≡ j
  pub few : length shapes < 2 ^ 31

-- the state is that of the shape: its place in the list, counted from 1
pub record IsStateOf (shapes : List Shape) (shape : Shape) (state : ℕ) : Type 0 where
  pub place : ℕ
  pub is : state ≡ suc place
  pub there : slice_get shapes place ≡ Some shape

-- the shape is that of a tree with halves of these states and this label at the root
pub record Fits (shelf : Contents) (shape : Shape) (l r : ℕ) (label : Label) : Type 0 where
  pub left : shape.left ≡ l
  pub right : shape.right ≡ r
  pub told : state_of shelf shape.test label ≡ 1

-- the state that the first n shapes give for two halves and a label: that of the shape that fits, and 0 where none fits
pub data IsStep (shelf : Contents) (shapes : List Shape) (n l r : ℕ) (label : Label) : ℕ → Type 0 where
  astray : ((k : ℕ) (shape : Shape) → k < n → slice_get shapes k ≡ Some shape → Fits shelf shape l r label → ⊥) →
      IsStep shelf shapes n l r label 0
  shaped : (k : ℕ) (shape : Shape) → k < n → slice_get shapes k ≡ Some shape → Fits shelf shape l r label →
      IsStep shelf shapes n l r label (suc k)

-- the shapes of a space
abbrev pub shapes_in : List (List Shape) → ℕ → List Shape
shapes_in lists s = unwrap_or (slice_get lists s) []

-- the state is that of a shape of the space
abbrev pub IsShaped : List (List Shape) → ℕ → ℕ → Type 0
IsShaped lists s q = (1 ≤ q) × (q ≤ length (shapes_in lists s))

-- the halves have shapes of the child spaces, and the test is that of a label
pub record IsShape (g : Spaces) (shelf : Contents) (tracks : List ℕ) (lists : List (List Shape)) (s : ℕ) (shape : Shape) : Type 0 where
  pub known : Label
  pub tells : Tells shelf tracks known shape.test
  pub left : IsShaped lists (left g s) shape.left
  pub right : IsShaped lists (right g s) shape.right

-- the first shape is that of the empty tree
pub record IsEmptyFirst (shelf : Contents) (tracks : List ℕ) (shapes : List Shape) : Type 0 where
  pub shape : Shape
  pub there : slice_get shapes 0 ≡ Some shape
  pub left : shape.left ≡ 1
  pub right : shape.right ≡ 1
  pub tells : Tells shelf tracks empty_label shape.test

-- the shapes of each space
pub record AreShapes (g : Spaces) (shelf : Contents) (tracks : List ℕ) (lists : List (List Shape)) : Type 0 where
  pub many : length lists ≡ length g
  pub empty : (s : ℕ) → IsSpace g s → IsEmptyFirst shelf tracks (shapes_in lists s)
  pub each : (s k : ℕ) (shape : Shape) → IsSpace g s → slice_get (shapes_in lists s) k ≡ Some shape →
      IsShape g shelf tracks lists s shape
  pub listed : (s : ℕ) → IsSpace g s → AreListed (shapes_in lists s)

-- every shape keeps its place
pub record KeepsShapes (old new : List (List Shape)) : Type 0 where
  pub kept : (s k : ℕ) (shape : Shape) → slice_get (shapes_in old s) k ≡ Some shape → slice_get (shapes_in new s) k ≡ Some shape
