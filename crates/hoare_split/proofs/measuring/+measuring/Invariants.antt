use Rattle.std.proofs.Common.{length}
use Rattle.hoare_split.specs.Callers.{procs_of, vars_of}
use Rattle.hoare_split.proofs.MeasuresStatementLemmas.{Passed}
use Rattle.hoare_split.proofs.measuring.+measuring.Given as goal

-- what stands behind the statements that are left was measured
abbrev pub invariant-measure_block-loop-last : goal.invariant-measure_block-loop-last
invariant-measure_block-loop-last l = Passed (procs_of l.caller) (vars_of l.caller) l.block l.left l.fn.rest l.count l.fn.found l.found

abbrev pub decreases-measure_block-loop-last : goal.decreases-measure_block-loop-last
decreases-measure_block-loop-last l = length l.left
