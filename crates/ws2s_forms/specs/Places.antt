-- Positions that the abbreviations name, and assignments with one position on a track.
use Rattle.std.specs.Prelude.{ℕ, zero, suc, true, false, [], ◌∷◌, ◌++◌}
use Rattle.gta_theory.specs.Assignments.{Position, PositionSet, Assignment, replace, is_same_position}

-- the set of the position alone
abbrev pub just : Position → PositionSet
just u = λ p. is_same_position u p

-- the assignment with one position on the track
abbrev pub with_position : Assignment → ℕ → Position → Assignment
with_position a t u = replace a t (just u)

-- the word of so many ones
abbrev pub ones : ℕ → Position
ones zero = []
ones (suc n) = true ∷ ones n

-- the child with the number j of the position u: so many steps by 1, and then one by 0
abbrev pub child_of : ℕ → Position → Position
child_of j u = u ++ (ones j ++ false ∷ [])

-- the position of the slot i, below the root
abbrev pub slot_of : ℕ → Position
slot_of i = ones i ++ false ∷ []
