-- Lines of a space's table: a row for a state of the left child, and a column for one of the right child.
use Rattle.std.specs.Prelude.{◌≡◌, ℕ, ◌+◌, ◌*◌, List, length, Option, Some, slice_get}
use Rattle.bdd_nodes.specs.declared.node_ref.NodeRef.{NodeRef}
use Rattle.bdd_nodes.specs.Shelf.{Contents}
use Rattle.gta_core.specs.Auto.{AutoView, root_at}
use Rattle.gta_core.specs.Placing.{Grows}
use Rattle.gta_merge.specs.declared.lines.Side.{Side}
use Rattle.gta_merge.specs.declared.lines.Side.TheVariants.{Left, Right}

-- the root of a state of a child with a state of the other child
abbrev pub root_beside : Contents → AutoView → ℕ → Side → ℕ → ℕ → Option NodeRef
root_beside shelf a s Left state other = root_at shelf a s state other
root_beside shelf a s Right state other = root_at shelf a s other state

-- the reference, as one that is there
abbrev pub some_root : NodeRef → Option NodeRef
some_root root = Some root

-- the rows of left states are put at the end, each with the roots for these right states
pub record PutsRows (root : ℕ → ℕ → Option NodeRef) (lefts rights : List ℕ) (old new : List NodeRef) : Type 0 where
  pub grown : Grows old new
  pub many : length new ≡ length old + length lefts * length rights
  pub each : (i j left right : ℕ) → slice_get lefts i ≡ Some left → slice_get rights j ≡ Some right →
      slice_get new (length old + (i * length rights + j)) ≡ root left right
