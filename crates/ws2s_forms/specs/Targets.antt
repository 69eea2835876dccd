-- The tracks on the way along bound positions.
use Rattle.std.specs.Prelude.{ℕ, zero, suc, ◌+◌}

-- the track of a step's position, where so many steps are left: the one that is asked for, or one that is bound
abbrev pub target : ℕ → ℕ → ℕ → ℕ
target next zero a = a
target next (suc left) a = next + left
