-- The roots for a state of each of two lists.
use Rattle.std.specs.Prelude.{◌≡◌, ◌⊎◌, ℕ, List, Option, Some, Contains, option_and_then, slice_get}
use Rattle.bdd_nodes.specs.declared.node_ref.NodeRef.{NodeRef}
use Rattle.bdd_nodes.specs.Shelf.{Contents, IsShelf}
use Rattle.gta_core.specs.Auto.{AutoView, table_of, root_among}

-- the roots are those that the automaton's table has in the shelf
pub record IsTableOf (shelf : Contents) (a : AutoView) (table : List NodeRef) : Type 0 where
  pub is_shelf : IsShelf shelf
  pub are : table ≡ table_of shelf a

-- the root of each pair of child states; none for an unknown state
abbrev pub Rooting : Type 0
Rooting = ℕ → ℕ → Option NodeRef

-- those of a space, where the automaton's table has these roots
abbrev pub rooting_in : AutoView → List NodeRef → ℕ → Rooting
rooting_in a table s l r = option_and_then (λ part. root_among table part l r) (slice_get a.parts s)

-- the root is that of a state of each list
pub record IsRootOf (at : Rooting) (lefts rights : List ℕ) (root : NodeRef) : Type 0 where
  pub left : ℕ
  pub right : ℕ
  pub in_left : Contains lefts left
  pub in_right : Contains rights right
  pub is : at left right ≡ Some root

-- the list has the root of each pair, and no other
pub record AreRoots (at : Rooting) (lefts rights : List ℕ) (roots : List NodeRef) : Type 0 where
  pub each : (l r : ℕ) (root : NodeRef) → Contains lefts l → Contains rights r → at l r ≡ Some root → Contains roots root
  pub only : (root : NodeRef) → Contains roots root → IsRootOf at lefts rights root

-- behind the roots that were there stand those of each pair of the lists
pub record AddRoots (at : Rooting) (lefts rights : List ℕ) (old new : List NodeRef) : Type 0 where
  pub kept : (root : NodeRef) → Contains old root → Contains new root
  pub each : (l r : ℕ) (root : NodeRef) → Contains lefts l → Contains rights r → at l r ≡ Some root → Contains new root
  pub only : (root : NodeRef) → Contains new root → Contains old root ⊎ IsRootOf at lefts rights root
