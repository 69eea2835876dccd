-- Child states that stand for all values of a child, whatever the classes of states are.
use Rattle.std.specs.Prelude.{◌≡◌, ℕ, List, length, Some, slice_get, slice_index}
use Rattle.gta_reach.specs.declared.form.FormSpace.{FormSpace}
use Rattle.gta_reach.specs.declared.form.Form.{Form}
use Rattle.gta_reach.specs.declared.sides.Side.{Side}
use Rattle.gta_reach.specs.declared.sides.Side.TheVariants.{Left, Right}
use Rattle.gta_reach.specs.Sides.{kinds_in}
use Rattle.gta_classes.specs.Chosen.{IsAmong, HasLike}
use Rattle.gta_refine.specs.declared.choices.Choices.{Choices}
use Rattle.gta_refine.specs.Uses.{IsOwn}

-- values of a child, one for each class of its values that have the same roots
pub record AreChoicesIn (form : Form) (s : ℕ) (space : FormSpace) (side : Side) (chosen : List ℕ) : Type 0 where
  pub each : (q : ℕ) → IsAmong chosen q → IsOwn form s side q
  pub all : (q : ℕ) → IsOwn form s side q → HasLike (kinds_in space side) chosen (slice_index (kinds_in space side) q)

-- so they are in the space with this number
abbrev pub AreChoices : Form → ℕ → Side → List ℕ → Type 0
AreChoices form s side chosen = (space : FormSpace) → slice_get form.spaces s ≡ Some space → AreChoicesIn form s space side chosen

-- so they are in each space, of both children
pub record AreAllChosen (form : Form) (all : List Choices) : Type 0 where
  pub many : length all ≡ length form.spaces
  pub left : (s : ℕ) (choices : Choices) → slice_get all s ≡ Some choices → AreChoices form s Left choices.left.items
  pub right : (s : ℕ) (choices : Choices) → slice_get all s ≡ Some choices → AreChoices form s Right choices.right.items
