use Rattle.std.proofs.Common.{◌≡◌, ◌<◌, ℕ, length, Some}
use Rattle.std.specs.Prelude.{slice_get}
use Rattle.gta_core.specs.Auto.{is_accepting}
use Rattle.gta_merge.proofs.merged.accepting_of.Given as goal

abbrev pub invariant-loop-state : goal.invariant-loop-state
invariant-loop-state l = record {
  many : length l.accepting ≡ l.state;
  each : (q : ℕ) → q < l.state → slice_get l.accepting q ≡ Some (is_accepting l.a q);
}
