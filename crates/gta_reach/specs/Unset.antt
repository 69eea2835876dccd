-- How many marks aren't set yet: a number that falls as states and nodes are found.
use Rattle.std.specs.Prelude.{ℕ, ◌+◌, Bool, List, [], ◌∷◌, length, if◌then◌else◌}
use Rattle.gta_reach.specs.declared.explore.Met.{Met}

-- 1 where it is so, and else 0
abbrev pub one_if : Bool → ℕ
one_if b = if b then 1 else 0

-- how many marks aren't set
abbrev pub unset : List Bool → ℕ
unset [] = 0
unset (mark ∷ marks) = (if mark then 0 else 1) + unset marks

-- how many marks of all spaces aren't set
abbrev pub unset_in : List (List Bool) → ℕ
unset_in [] = 0
unset_in (marks ∷ rest) = unset marks + unset_in rest

-- how much is still to be met, or to be looked at
abbrev pub left_of : Met → ℕ
left_of met = unset_in met.states.items + unset_in met.nodes.items + length met.waiting
