-- Laws of `specs/Faults.antt`, for code that makes several calls.
use Rattle.std.proofs.Common.{ℕ, ◌≤◌, arith}
use Rattle.pale_io.specs.Faults.{Rose}

-- a count that rose in a part of a call rose in the whole call, since it never falls
pub Rose-wider : (first before now last : ℕ) → Rose before now → first ≤ before → before ≤ now → now ≤ last → Rose first last
Rose-wider first before now last rose earlier between later = record { rise = λ below. grind (arith, rose.rise) }
