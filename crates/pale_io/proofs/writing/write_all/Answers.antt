use Rattle.std.proofs.Common.{◌<◌, length, arith}
use Rattle.std.proofs.lemmas.Bool.Decides.{nat_tests}
use Rattle.std.proofs.lemmas.Result.{err_from_is_err_and}
use Rattle.pale_io.proofs.WritingSteps.{WritesFront-from_so_far, WritesSoFar-more}
use Rattle.pale_io.proofs.writing.write_all.Goals as goal

pub returns-in_err-count-clause-err : goal.returns-in_err-count-clause-err
returns-in_err-count-clause-err g c =
    let more : 0 < length c.loop-rest.rest.now = grind (arith, nat_tests) in
    let p = err_from_is_err_and c.from_residual.result c.from_residual.ensures.1 in
    rw p.1 (WritesFront-from_so_far _ c.loop-rest.invariant more c.in_err-count.ensures.err)

pub loop-rest-preserved : goal.loop-rest-preserved
loop-rest-preserved g c = WritesSoFar-more _ _ _ _ c.loop-rest.invariant c.in_ok-count.ensures.added c.write.ensures.kept (omega arith)
