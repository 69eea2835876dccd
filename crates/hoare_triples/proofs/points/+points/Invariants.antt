use Rattle.std.proofs.Common.{length}
use Rattle.hoare_split.specs.Callers.{procs_of, vars_of}
use Rattle.hoare_triples.specs.Following.{flow_of}
use Rattle.hoare_split.specs.Triples.{triple_of}
use Rattle.hoare_triples.proofs.PointLemmas.{IsSplit}
use Rattle.hoare_triples.proofs.points.+points.Given as goal

-- the triples so far, and those of the statements that are left
abbrev pub invariant-split_block-loop-stmt : goal.invariant-split_block-loop-stmt
invariant-split_block-loop-stmt l =
    IsSplit (procs_of l.caller) (vars_of l.caller) (triple_of l.caller.number) (flow_of l.caller l.rest) l.block l.left l.fn.triples l.triples

abbrev pub decreases-split_block-loop-stmt : goal.decreases-split_block-loop-stmt
decreases-split_block-loop-stmt l = length l.left
