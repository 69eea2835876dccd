-- The part of an automaton whose states stand in a grid.
use Rattle.std.specs.Prelude.{◌≡◌, ℕ, ◌/◌, ◌%◌, List, [], ◌∷◌}
use Rattle.gta_core.specs.declared.part.Part.{Part}
use Rattle.gta_gallery.specs.Functions.{AreValues}

-- so many states in rows of so many columns, each pair of a row and a column with a function of its own
pub record IsGridPart (states columns : ℕ) (part : Part) : Type 0 where
  pub states_are : part.states ≡ states
  pub initial_is : part.initial ≡ 0
  pub children_are : part.children ≡ (0, 0)
  pub first_is : part.first ≡ 0
  pub rows_are : AreValues (λ q. q / columns) states part.rows
  pub columns_are : AreValues (λ q. q % columns) states part.columns
  pub width_is : part.width ≡ columns
  pub cells_are : AreValues (λ k. k) states part.cells

-- the part of the one space
pub record AreGridParts (states columns : ℕ) (parts : List Part) : Type 0 where
  pub part : Part
  pub is_grid : IsGridPart states columns part
  pub parts_are : parts ≡ part ∷ []
