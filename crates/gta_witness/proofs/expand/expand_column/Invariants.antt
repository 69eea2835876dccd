use Rattle.std.proofs.Common.{◌<◌, ℕ}
use Rattle.std.specs.Prelude.{slice_index_or}
use Rattle.gta_witness.specs.Rules.{key}
use Rattle.gta_witness.specs.Searching.{found_by, weighs_in, GoesOn}
use Rattle.gta_witness.specs.Following.{FollowsCell}
use Rattle.gta_witness.proofs.expand.expand_column.Given as goal

abbrev pub invariant-loop-row : goal.invariant-loop-row
invariant-loop-row l = record {
  goes_on : GoesOn l.form (weighs_in l.weighed) (key l.weight) l.fn.search l.search;
  cells : (k d : ℕ) → k < l.row-index → FollowsCell l.form (found_by l.search) l.space (slice_index_or l.rows k d) l.column;
}
