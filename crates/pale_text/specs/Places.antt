-- Places in a text: lines are counted from 1 by LF, and columns from 1 by bytes.
use Rattle.std.specs.Prelude.{ℕ, ◌+◌, ◌==◌, if◌then◌else◌, List, [], ◌∷◌}
use Rattle.pale_text.specs.declared.place.Pos.{Pos}

-- the place of a text's first byte
abbrev pub first_place : Pos
first_place = record { line = 1; column = 1 }

-- the place after this byte at this place: an LF (10) ends the line
abbrev pub place_after : Pos → ℕ → Pos
place_after place byte =
    if byte == 10 then record { line = place.line + 1; column = 1 } else record { line = place.line; column = place.column + 1 }

-- the place after these bytes, the first of which stands at this place
abbrev pub place_past : Pos → List ℕ → Pos
place_past place [] = place
place_past place (byte ∷ bytes) = place_past (place_after place byte) bytes

-- stands where no place is known
abbrev pub nowhere : Pos
nowhere = record { line = 0; column = 0 }
