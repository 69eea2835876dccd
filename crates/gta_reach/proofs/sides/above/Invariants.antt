use Rattle.std.proofs.Common.{◌<◌, ◌≤◌, ◌^◌, ℕ}
use Rattle.std.specs.Prelude.{slice_index}
use Rattle.gta_reach.proofs.sides.above.Given as goal

abbrev pub invariant-loop-number : goal.invariant-loop-number
invariant-loop-number l = record {
  some : 1 ≤ l.above;
  small : l.above ≤ 2 ^ 32;
  each : (i : ℕ) → i < l.number-index → slice_index l.numbers i < l.above;
}
