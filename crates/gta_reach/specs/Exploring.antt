-- What is met on the way from the initial states leads to generated states alone.
use Rattle.std.specs.Prelude.{◌≡◌, ℕ, ◌<◌, Bool, true, List, [], All, Contains, length, Some, slice_get, slice_index_or, slice_set}
use Rattle.labels.specs.Labels.{Label}
use Rattle.bdd_list.specs.declared.listing.Listed.{Listed}
use Rattle.bdd_list.specs.Listing.{function_of, IsIn}
use Rattle.gta_theory.specs.Generated.{Generated}
use Rattle.gta_reach.specs.declared.form.FormSpace.{FormSpace}
use Rattle.gta_reach.specs.declared.form.Form.{Form}
use Rattle.gta_reach.specs.declared.sides.Side.{Side}
use Rattle.gta_reach.specs.declared.explore.Waiting.{Waiting}
use Rattle.gta_reach.specs.declared.explore.Met.{Met}
use Rattle.gta_reach.specs.declared.explore.Kept.{Kept}
use Rattle.gta_reach.specs.Form.{guide_of, automaton_of}
use Rattle.gta_reach.specs.Sides.{child_at}
use Rattle.gta_reach.specs.Reached.{AreGenerated}
use Rattle.gta_classes.specs.Marks.{IsClear}

-- the marks of each space, with that of a number in one of them
abbrev pub with_mark : List (List Bool) → ℕ → ℕ → List (List Bool)
with_mark marks s number = slice_set marks s (slice_set (slice_index_or marks s []) number true)

-- no mark is set in any space
abbrev pub AreClear : List (List Bool) → Type 0
AreClear marks = (s : ℕ) (one : List Bool) → slice_get marks s ≡ Some one → IsClear one

-- the state of a space is generated
abbrev pub IsGeneratedIn : Form → ℕ → ℕ → Type 0
IsGeneratedIn form s q = Generated (guide_of form) (automaton_of form) s q

-- the state of a child of a space is generated
abbrev pub IsGeneratedAt : Form → ℕ → Side → ℕ → Type 0
IsGeneratedAt form s side q = IsGeneratedIn form (child_at (guide_of form) side s) q

-- what is listed in a space gives generated states alone
pub record GivesGenerated (form : Form) (s : ℕ) (listed : Listed) : Type 0 where
  pub space : FormSpace
  pub at : slice_get form.spaces s ≡ Some space
  pub inside : IsIn space.listing.nodes listed
  pub gives : (label : Label) → IsGeneratedIn form s (function_of space.listing listed label)

-- what waits gives generated states alone
abbrev pub IsWaiting : Form → Waiting → Type 0
IsWaiting form next = GivesGenerated form next.s next.listed

-- the states that were met hold the initial ones, and are generated; so is all that what waits gives
pub record AreMet (form : Form) (met : Met) : Type 0 where
  pub states : AreGenerated form met.states.items
  pub waiting : All (IsWaiting form) met.waiting

-- no child state is kept
abbrev pub KeepsNone : Kept → Type 0
KeepsNone one = one.states ≡ []

-- no child state is kept in any space
abbrev pub AllKeepNone : List Kept → Type 0
AllKeepNone kept = (s : ℕ) (one : Kept) → slice_get kept s ≡ Some one → KeepsNone one

-- there is a part for each space, with generated states of its child on the side
pub record AreKept (form : Form) (side : Side) (kept : List Kept) : Type 0 where
  pub many : length kept ≡ length form.spaces
  pub each : (s : ℕ) (one : Kept) → slice_get kept s ≡ Some one → All (IsGeneratedAt form s side) one.states

-- they are spaces
abbrev pub AreSpaces : Form → List ℕ → Type 0
AreSpaces form numbers = (s : ℕ) → Contains numbers s → s < length form.spaces
