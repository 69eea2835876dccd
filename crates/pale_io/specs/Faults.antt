-- Counts of faults. A source and a sink each keep one. It never falls, and stops at the last value of a u64.
use Rattle.std.specs.Prelude.{◌≢◌, ℕ, ◌+◌, ◌-◌, ◌^◌, ◌<◌, min}

-- the count after one more fault
abbrev pub raised : ℕ → ℕ
raised faults = min (faults + 1) (2 ^ 64 - 1)

-- the count rose from one moment to a later one: it is greater then, unless it stands at the last value of a u64
pub record Rose (before now : ℕ) : Type 0 where
  pub rise : now ≢ 2 ^ 64 - 1 → before < now
