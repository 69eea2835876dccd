-- A walk down from lists of spots: which lists of spots it has met, and which lists of states it has come to.
use Rattle.std.specs.Prelude.{◌≡◌, ◌⊎◌, ℕ, ◌<◌, Bool, true, false, List, [], ◌∷◌, ◌++◌, map, slice_get, Contains, Some, None}
use Rattle.labels.specs.Labels.{Label}
use Rattle.cert_nodes.specs.declared.spots.Spot.{Spot}
use Rattle.cert_nodes.specs.declared.spots.Diagrams.{Diagrams}
use Rattle.cert_nodes.specs.declared.walk.Step.{Step}
use Rattle.cert_nodes.specs.declared.walk.Step.TheVariants.{Leaf, Split}
use Rattle.cert_nodes.specs.Spots.{states_at, leaf_of, side_at, IsLedTo, IsFirstOf}

-- the list stays, or gets one more at its end
abbrev pub AddsAtMost : {N : Type 0} → List N → N → List N → Type 0
AddsAtMost old one new = (new ≡ old) ⊎ (new ≡ old ++ one ∷ [])

-- the states of spots without nodes
abbrev pub leaves_of : List Spot → List ℕ
leaves_of spots = map (λ spot. leaf_of spot.target) spots

-- the sides of spots
abbrev pub sides_of : Diagrams → ℕ → ℕ → Bool → List Spot → List Spot
sides_of d dropped track bit spots = map (side_at d dropped track bit) spots

-- the two sides under the first track
pub record SplitsAt (d : Diagrams) (dropped : ℕ) (spots low high : List Spot) (track : ℕ) : Type 0 where
  pub first : IsFirstOf d spots (Some track)
  pub is_low : low ≡ sides_of d dropped track false spots
  pub is_high : high ≡ sides_of d dropped track true spots

-- the step leads to the states, or to both sides
abbrev pub IsStepFrom : Diagrams → ℕ → List Spot → Step → Type 0
IsStepFrom d dropped spots (Leaf states) = IsFirstOf d spots None × (states ≡ leaves_of spots)
IsStepFrom d dropped spots (Split low high) = (track : ℕ) × SplitsAt d dropped spots low.items high.items track

-- where a list of spots leads to has been met, or come to
abbrev pub IsWalked : Diagrams → ℕ → List (List Spot) → List (List ℕ) → List Spot → Type 0
IsWalked d dropped met lists spots =
    (IsFirstOf d spots None × Contains lists (leaves_of spots))
    ⊎ ((track : ℕ) × IsFirstOf d spots (Some track) × Contains met (sides_of d dropped track false spots)
    × Contains met (sides_of d dropped track true spots))

-- the walk from the starts has met these lists, which lead to nothing else, has looked at those before a place, and has come
-- to these states
pub record WalksFrom (d : Diagrams) (dropped : ℕ) (starts met : List (List Spot)) (lists : List (List ℕ)) (place : ℕ) : Type 0 where
  pub started : (spots : List Spot) → Contains starts spots → Contains met spots
  pub walked : (k : ℕ) (spots : List Spot) → k < place → slice_get met k ≡ Some spots → IsWalked d dropped met lists spots
  pub came : (spots : List Spot) (label : Label) → Contains met spots → IsLedTo d dropped starts (states_at d dropped spots label)
  pub led : (states : List ℕ) → Contains lists states → IsLedTo d dropped starts states
