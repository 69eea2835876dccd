-- How given roots are put into one table.
use Rattle.std.specs.Prelude.{◌≡◌, ℕ, ◌+◌, ◌<◌, ◌≤◌, ◌^◌, List, length, Option, Some, None, IsSome, MatchOption, slice_get, option_map}
use Rattle.bdd_nodes.specs.declared.node_ref.NodeRef.{NodeRef}
use Rattle.gta_theory.specs.Guides.{Spaces}
use Rattle.gta_core.specs.declared.part.Part.{Part}
use Rattle.gta_core.specs.declared.build.SpacePart.{SpacePart}
use Rattle.gta_core.specs.Auto.{place_in}
use Rattle.gta_core.specs.Given.{given_root}

-- roots were put at the end
pub record Grows (old new : List NodeRef) : Type 0 where
  pub longer : length old ≤ length new
  pub kept : (place : ℕ) → place < length old → slice_get new place ≡ slice_get old place

-- the given roots stand behind the old ones, and each cell says where among these a given root stands
pub record Shares (given old : List NodeRef) (cells : List ℕ) (new : List NodeRef) : Type 0 where
  pub grown : Grows old new
  pub many : length cells ≡ length given
  pub at : (i cell : ℕ) → slice_get cells i ≡ Some cell → slice_get new (length old + cell) ≡ slice_get given i
  pub used : (more : ℕ) → length old + more < length new → (i : ℕ) × (slice_get cells i ≡ Some more)

-- the place has the root that is given; there is no place where none is given
abbrev pub HasGiven : List NodeRef → Option ℕ → Option NodeRef → Type 0
HasGiven roots place given = MatchOption place (given ≡ None) (λ p. IsSome given × (slice_get roots p ≡ given))

-- the part of a space is as it is given, and has a place for each given root
pub record IsPlaced (g : Spaces) (spaces : List SpacePart) (roots : List NodeRef) (s : ℕ) (part : Part) : Type 0 where
  pub children : slice_get g s ≡ Some part.children
  pub states : option_map (λ given. given.states) (slice_get spaces s) ≡ Some part.states
  pub initial : option_map (λ given. given.initial) (slice_get spaces s) ≡ Some part.initial
  pub few : part.states ≤ 2 ^ 31
  pub root : (l r : ℕ) → HasGiven roots (place_in part l r) (given_root g spaces s l r)

-- some pair of child states has the place in the part
pub record HasPlace (part : Part) (place : ℕ) : Type 0 where
  pub left : ℕ
  pub right : ℕ
  pub there : place_in part left right ≡ Some place

-- the parts of the first spaces are placed, and have all places
pub record ArePlaced (g : Spaces) (spaces : List SpacePart) (parts : List Part) (roots : List NodeRef) : Type 0 where
  pub each : (s : ℕ) (part : Part) → slice_get parts s ≡ Some part → IsPlaced g spaces roots s part
  pub used : (place : ℕ) → place < length roots → (s : ℕ) × (part : Part) × (slice_get parts s ≡ Some part) × HasPlace part place
