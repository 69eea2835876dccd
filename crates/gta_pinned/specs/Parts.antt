-- The parts of the automaton in which each shape is a state, and 0 is the state of all other trees.
use Rattle.std.specs.Prelude.{◌≡◌, ℕ, ◌+◌, ◌*◌, ◌^◌, ◌<◌, ◌≤◌, Bool, nat_eq, List, length, map, All, Some, slice_get}
use Rattle.std.specs.List.{range_with_len}
use Rattle.labels.specs.Labels.{Label}
use Rattle.bdd_nodes.specs.declared.node_ref.NodeRef.{NodeRef}
use Rattle.bdd_nodes.specs.Shelf.{Contents, IsValid, state_of}
use Rattle.gta_theory.specs.Guides.{Spaces, IsSpace, left, right}
use Rattle.gta_core.specs.declared.build.SpacePart.{SpacePart}
use Rattle.gta_pinned.specs.declared.shapes.Shape.{Shape}
use Rattle.gta_pinned.specs.Shapes.{IsStep, shapes_in}

-- the shapes of a space have tests, and halves with so many states
pub record AreUsable (shelf : Contents) (shapes : List Shape) (height width : ℕ) : Type 0 where
  pub test : (k : ℕ) (shape : Shape) → slice_get shapes k ≡ Some shape → IsValid shelf shape.test
  pub left : (k : ℕ) (shape : Shape) → slice_get shapes k ≡ Some shape → shape.left < height
  pub right : (k : ℕ) (shape : Shape) → slice_get shapes k ≡ Some shape → shape.right < width
  pub few : length shapes < 2 ^ 31
  pub low : height ≤ 2 ^ 31
  pub narrow : width ≤ 2 ^ 31

-- the roots for the pairs of so many states at the left and at the right: each is what the first n shapes give
pub record AreRoots (shelf : Contents) (shapes : List Shape) (n height width : ℕ) (roots : List NodeRef) : Type 0 where
  pub many : length roots ≡ height * width
  pub valid : All (IsValid shelf) roots
  pub steps : (l r : ℕ) (root : NodeRef) (label : Label) → l < height → r < width → slice_get roots (l * width + r) ≡ Some root →
      IsStep shelf shapes n l r label (state_of shelf root label)

-- how many states a space has
abbrev pub count_in : List (List Shape) → ℕ → ℕ
count_in lists s = length (shapes_in lists s) + 1

-- so are those of all spaces
pub record AreAllUsable (g : Spaces) (shelf : Contents) (lists : List (List Shape)) : Type 0 where
  pub many : length lists ≡ length g
  pub each : (s : ℕ) → IsSpace g s → AreUsable shelf (shapes_in lists s) (count_in lists (left g s)) (count_in lists (right g s))

-- the part of a space: a state for each shape and one more, of which 1 is the empty tree's
pub record IsPartIn (g : Spaces) (shelf : Contents) (lists : List (List Shape)) (s : ℕ) (part : SpacePart) : Type 0 where
  pub states : part.states ≡ count_in lists s
  pub initial : part.initial ≡ 1
  pub roots : AreRoots shelf (shapes_in lists s) (length (shapes_in lists s)) (count_in lists (left g s)) (count_in lists (right g s)) part.roots

-- for each of so many states whether it is that one
abbrev pub are_only : ℕ → ℕ → List Bool
are_only state many = map (λ q. nat_eq q state) (range_with_len 0 many)
