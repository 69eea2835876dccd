-- The lines of a text, and the parts of a line.
use Rattle.std.specs.Prelude.{ℕ, ◌==◌, ◌&&◌, not, Bool, true, false, List, [], ◌∷◌, if◌then◌else◌}
use Rattle.std.specs.List.{onto_first}

-- the lines of a text: an LF (10) ends a line, and the last line may lack it
abbrev pub lines_of : List ℕ → List (List ℕ)
lines_of [] = []
lines_of (byte ∷ bytes) = if byte == 10 then [] ∷ lines_of bytes else onto_first byte (lines_of bytes)

-- whether what follows this byte stands in braces: `{` (123) opens them and `}` (125) closes them
abbrev pub braced_after : Bool → ℕ → Bool
braced_after braced byte = if byte == 123 then true else (if byte == 125 then false else braced)

-- the parts of what is left of a line, whose front stands in braces or doesn't
abbrev pub parts_from : Bool → List ℕ → List (List ℕ)
parts_from braced [] = [] ∷ []
parts_from braced (byte ∷ bytes) =
    if not braced && byte == 32 then [] ∷ parts_from false bytes else onto_first byte (parts_from (braced_after braced byte) bytes)

-- the parts of a line: it is cut at each space (32) that doesn't stand in braces
abbrev pub parts_of : List ℕ → List (List ℕ)
parts_of line = parts_from false line
