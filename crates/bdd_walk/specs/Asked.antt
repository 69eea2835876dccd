-- The lists of leaves that a join puts to its rule: one for each label.
use Rattle.std.specs.Prelude.{ℕ, true, false, List, ◌++◌, map, Option, Some, None}
use Rattle.bdd_nodes.specs.declared.node_ref.NodeRef.{NodeRef}
use Rattle.labels.specs.Labels.{Label, with_track}
use Rattle.bdd_nodes.specs.Shelf.{Contents, state_of}

-- the leaf of each root for a label, in order
abbrev pub leaves_of : Contents → List NodeRef → Label → List ℕ
leaves_of shelf roots label = map (λ root. state_of shelf root label) roots

-- the leaves for a label; of a dropped track first those with it unset, and then those with it set
abbrev pub asked_of : Contents → List NodeRef → Option ℕ → Label → List ℕ
asked_of shelf roots None label = leaves_of shelf roots label
asked_of shelf roots (Some t) label = leaves_of shelf roots (with_track label t false) ++ leaves_of shelf roots (with_track label t true)

-- the list is like one that some label gives
unfoldable pub IsGiven : (List ℕ → List ℕ → Type 0) → (Label → List ℕ) → List ℕ → Type 0
IsGiven like asked states = (label : Label) × like (asked label) states
