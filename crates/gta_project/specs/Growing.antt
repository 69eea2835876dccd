-- How the sets of the spaces grow while a projection is built, and what each space was joined for.
use Rattle.std.specs.Prelude.{◌≡◌, ℕ, ◌+◌, ◌-◌, ◌^◌, ◌⊎◌, List, [], ◌∷◌, length, Some, Contains, slice_get}
use Rattle.bdd_nodes.specs.Shelf.{Contents, IsShelf}
use Rattle.bdd_nodes.specs.Changes.{Keeps, SameTables}
use Rattle.gta_theory.specs.Guides.{Spaces, left, right}
use Rattle.gta_theory.specs.Automata.{Automaton}
use Rattle.gta_theory.specs.Generated.{Generated}
use Rattle.gta_core.specs.Auto.{AutoView}
use Rattle.gta_project.specs.declared.growing.Seen.{Seen}
use Rattle.gta_project.specs.declared.growing.Growth.{Growth}
use Rattle.gta_subsets.specs.Numbers.{AreNumbers}
use Rattle.gta_subsets.specs.Classes.{AreKeyed}
use Rattle.gta_subsets.specs.Shorts.{rows_in, columns_in}
use Rattle.gta_project.specs.Building.{CompleteAll, ExceedsSteps, HasManyCells, Building, ExtendAll}

-- the sets that were looked at have classes, each with a key of its own
pub record IsKeyed (states : List ℕ) (seen : Seen) : Type 0 where
  pub sets : List (List ℕ)
  pub of : List ℕ
  pub numbers : AreNumbers seen.keys
  pub keyed : AreKeyed sets states of seen.ones seen.keys

module _ (g : Spaces) (Sets : Automaton (List ℕ)) where
  -- each set of the list is generated in the space
  abbrev pub AreGenerated : ℕ → List (List ℕ) → Type 0
  AreGenerated s sets = (set : List ℕ) → Contains sets set → Generated g Sets s set

  module _ (a : AutoView) where
    -- the space was joined for generated sets of its children, one of each class
    pub record HasSeen (s : ℕ) (growth : Growth) : Type 0 where
      pub rows : AreGenerated (left g s) growth.rows.ones
      pub columns : AreGenerated (right g s) growth.columns.ones
      pub row_keys : IsKeyed (rows_in a s) growth.rows
      pub column_keys : IsKeyed (columns_in a s) growth.columns

    -- so was each space
    pub record HaveSeen (growths : List Growth) : Type 0 where
      pub many : length growths ≡ length g
      pub each : (s : ℕ) (growth : Growth) → slice_get growths s ≡ Some growth → HasSeen s growth

  -- the projection goes on being built
  pub record Goes (old new : Contents) (before after : List (List (List ℕ))) : Type 0 where
    pub extends : ExtendAll before after
    pub keeps : Keeps old new
    pub tables : SameTables old new
    pub shelf : IsShelf new
    pub building : (start : Contents) → Building g Sets start old before → Building g Sets start new after

  -- there is less room than the projection that was being built has missing functions, or a space has many cells
  abbrev pub LacksRoom : Contents → List (List (List ℕ)) → List (List (List ℕ)) → Type 0
  LacksRoom old before after = (start : Contents) → Building g Sets start old before → (given : ℕ → List ℕ → ℕ) →
      CompleteAll g Sets after given → ExceedsSteps g Sets start given ⊎ HasManyCells g Sets start

-- how many sets the spaces may still get, where each has at most as many as there are state numbers
abbrev pub room_left : List (List (List ℕ)) → ℕ
room_left [] = 0
room_left (sets ∷ spaces) = (2 ^ 31 - length sets) + room_left spaces
