-- Listed nodes that are marked: those under some of what is listed.
use Rattle.std.specs.Prelude.{◌≡◌, ℕ, Bool, true, List, [], ◌⊎◌, length, Some, slice_get, Contains}
use Rattle.labels.specs.Labels.{Function, IsUnder}
use Rattle.bdd_list.specs.declared.listing.Listed.{Listed}
use Rattle.bdd_list.specs.declared.listing.Listed.TheVariants.{Inner}
use Rattle.bdd_list.specs.declared.listing.ListedNode.{ListedNode}
use Rattle.bdd_list.specs.Listing.{node_at, function_in}
use Rattle.gta_classes.specs.Chosen.{is_marked}
use Rattle.gta_reach.specs.Reached.{IsTouched}

-- the function is under that of one of these
pub record IsUnderListed (nodes : List ListedNode) (roots : List Listed) (f : Function) : Type 0 where
  pub place : ℕ
  pub root : Listed
  pub there : slice_get roots place ≡ Some root
  pub under : IsUnder (function_in nodes root) f

-- each marked node is under one of these
abbrev pub AreUnder : List ListedNode → List Listed → List Bool → Type 0
AreUnder nodes roots marks = (i : ℕ) → is_marked marks i ≡ true → IsUnderListed nodes roots (function_in nodes (Inner i))

-- the nodes among these are marked, and no others that weren't
pub record AreTouched (roots : List Listed) (old new : List Bool) : Type 0 where
  pub many : length new ≡ length old
  pub touched : (k : ℕ) (root : Listed) → slice_get roots k ≡ Some root → IsTouched new [] root
  pub sound : (i : ℕ) → is_marked new i ≡ true → (is_marked old i ≡ true) ⊎ Contains roots (Inner i)

-- with each marked node its sides are marked
pub record AreSidesMarked (nodes : List ListedNode) (marks : List Bool) : Type 0 where
  pub low : (i : ℕ) → is_marked marks i ≡ true → IsTouched marks [] (node_at nodes i).low
  pub high : (i : ℕ) → is_marked marks i ≡ true → IsTouched marks [] (node_at nodes i).high

-- the nodes among these are marked, and with each node its sides; and each marked node is under one of these
pub record AreMarked (nodes : List ListedNode) (roots : List Listed) (marks : List Bool) : Type 0 where
  pub many : length marks ≡ length nodes
  pub touched : (k : ℕ) (root : Listed) → slice_get roots k ≡ Some root → IsTouched marks [] root
  pub sides : AreSidesMarked nodes marks
  pub under : AreUnder nodes roots marks
