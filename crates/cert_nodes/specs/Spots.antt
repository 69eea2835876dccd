-- What spots in decision nodes lead to.
use Rattle.std.specs.Prelude.{◌≡◌, ℕ, ◌==◌, ◌≤◌, min, Bool, List, map, Contains, Option, Some, None, if◌then◌else◌}
use Rattle.labels.specs.Labels.{Label, with_track}
use Rattle.cert_text.specs.declared.line.Target.{Target}
use Rattle.cert_text.specs.declared.line.Target.TheVariants as target
use Rattle.cert_text.specs.declared.line.NodeLine.{NodeLine}
use Rattle.cert_nodes.specs.declared.spots.Spot.{Spot}
use Rattle.cert_nodes.specs.declared.spots.Diagrams.{Diagrams}
use Rattle.cert_nodes.specs.Nodes.{state_on, functions_of, node_at, AreNodes}

-- in both lists of nodes each one follows those before it
abbrev pub AreDrawn : Diagrams → Type 0
AreDrawn d = AreNodes d.atoms × AreNodes d.told

-- the nodes that the spot stands in
abbrev pub nodes_of : Diagrams → Spot → List NodeLine
nodes_of d spot = if spot.in_atoms then d.atoms else d.told

-- the label with the dropped track as it is fixed, if it is
abbrev pub label_for : ℕ → Option Bool → Label → Label
label_for dropped None label = label
label_for dropped (Some bit) label = with_track label dropped bit

-- the state that the spot leads to on a label
abbrev pub state_at : Diagrams → ℕ → Label → Spot → ℕ
state_at d dropped label spot = state_on (functions_of (nodes_of d spot)) spot.target (label_for dropped spot.fixed label)

-- the states that spots lead to, in order
abbrev pub states_at : Diagrams → ℕ → List Spot → Label → List ℕ
states_at d dropped spots label = map (state_at d dropped label) spots

-- on some label one of the lists of spots leads to these states
pub record IsLedTo (d : Diagrams) (dropped : ℕ) (starts : List (List Spot)) (states : List ℕ) : Type 0 where
  pub start : List Spot
  pub listed : Contains starts start
  pub label : Label
  pub leads : states_at d dropped start label ≡ states

-- ---- on the way down

-- the node that a target stands at
abbrev pub node_of : List NodeLine → Target → Option NodeLine
node_of nodes (target.State q) = None
node_of nodes (target.Node n) = node_at nodes n

-- the state of a target without a node
abbrev pub leaf_of : Target → ℕ
leaf_of (target.State q) = q
leaf_of (target.Node n) = 0

-- which side is taken at a node that asks the track: as the bit says, or as the dropped track is fixed
abbrev pub bit_for : ℕ → ℕ → Bool → Option Bool → Bool
bit_for dropped track bit None = bit
bit_for dropped track bit (Some fixed) = if track == dropped then fixed else bit

-- the spot's side, if its node asks the track; else the spot
abbrev pub side_by : ℕ → ℕ → Bool → Spot → Option NodeLine → Spot
side_by dropped track bit spot None = spot
side_by dropped track bit spot (Some node) =
    if node.track == track then record spot { target = if bit_for dropped track bit spot.fixed then node.high else node.low } else spot

abbrev pub side_at : Diagrams → ℕ → ℕ → Bool → Spot → Spot
side_at d dropped track bit spot = side_by dropped track bit spot (node_of (nodes_of d spot) spot.target)

-- the track that the spot's node asks
abbrev pub track_by : Option NodeLine → Option ℕ
track_by None = None
track_by (Some node) = Some node.track

abbrev pub track_at : Diagrams → Spot → Option ℕ
track_at d spot = track_by (node_of (nodes_of d spot) spot.target)

-- the earlier of two tracks
abbrev pub earlier_of : Option ℕ → Option ℕ → Option ℕ
earlier_of None other = other
earlier_of (Some first) None = Some first
earlier_of (Some first) (Some second) = Some (min first second)

-- a spot asks the track, and none asks an earlier one
pub record AsksFirst (d : Diagrams) (spots : List Spot) (track : ℕ) : Type 0 where
  pub asking : Spot
  pub listed : Contains spots asking
  pub asks : track_at d asking ≡ Some track
  pub none_before : (spot : Spot) (other : ℕ) → Contains spots spot → track_at d spot ≡ Some other → track ≤ other

-- the track that is asked first; none where no spot has a node
abbrev pub IsFirstOf : Diagrams → List Spot → Option ℕ → Type 0
IsFirstOf d spots None = (spot : Spot) → Contains spots spot → track_at d spot ≡ None
IsFirstOf d spots (Some track) = AsksFirst d spots track
