-- How many numbers the parts of an automaton keep.
use Rattle.std.specs.Prelude.{ℕ, ◌+◌, length}
use Rattle.gta_core.specs.declared.part.Part.{Part}

-- the places of a part: its rows, its columns and its cells
abbrev pub places_in : Part → ℕ
places_in part = length part.rows + length part.columns + length part.cells
