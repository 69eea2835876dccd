-- What is decided: it holds, or it doesn't.
use Rattle.std.specs.Prelude.{◌⊎◌}

-- it holds, or it doesn't
abbrev pub Decided : Type 0 → Type 0
Decided P = P ⊎ (P → ⊥)
