-- Functions that go to some states.
use Rattle.std.specs.Prelude.{◌≡◌, ℕ, ◌<◌, List, length, Some, slice_get}
use Rattle.labels.specs.Labels.{Label, empty_label}
use Rattle.bdd_nodes.specs.declared.node_ref.NodeRef.{NodeRef}
use Rattle.bdd_nodes.specs.Shelf.{Contents, IsValid, state_of}

-- the list has the values of the function at the numbers below
pub record AreValues (f : ℕ → ℕ) (below : ℕ) (values : List ℕ) : Type 0 where
  pub many : length values ≡ below
  pub each : (k : ℕ) → k < below → slice_get values k ≡ Some (f k)

-- the reference goes to states below
pub record GoesTo (shelf : Contents) (states : ℕ) (r : NodeRef) : Type 0 where
  pub valid : IsValid shelf r
  pub below : (label : Label) → state_of shelf r label < states

-- the references go to states below, and the first one to the first state on the empty label
pub record GoTo (shelf : Contents) (states : ℕ) (refs : List NodeRef) : Type 0 where
  pub each : (k : ℕ) (r : NodeRef) → slice_get refs k ≡ Some r → GoesTo shelf states r
  pub first : (r : NodeRef) → slice_get refs 0 ≡ Some r → state_of shelf r empty_label ≡ 0
