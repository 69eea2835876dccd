-- The texts that a call reads.
use Rattle.std.specs.Prelude.{ℕ}

-- the most bytes that a text may have
abbrev pub most_bytes : ℕ
most_bytes = 1048576
