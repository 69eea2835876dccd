-- The automata of parts that the checker keeps.
use Rattle.std.specs.Prelude.{◌≡◌, ℕ, ◌<◌, List, length, slice_get, Some}
use Rattle.cert_check.specs.declared.board.Base.{Base}
use Rattle.cert_check.specs.declared.board.Part.{Part}

-- each part's base is there
abbrev pub AreInside : List Base → List Part → Type 0
AreInside bases parts = (k : ℕ) (part : Part) → slice_get parts k ≡ Some part → part.base < length bases
