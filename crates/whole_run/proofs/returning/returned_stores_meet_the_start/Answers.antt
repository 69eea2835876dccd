use Rattle.std.proofs.Common.{◌≡◌, sym, ◌∙◌}
use Rattle.pale_typed.specs.Fitting.{ProcFits}
use Rattle.hoare_split.proofs.FittingVariableLemmas.{all-at}
use Rattle.whole_run.proofs.Handed.{some_same}
use Rattle.whole_run.proofs.ReturnedHolds.{start_holds}
use Rattle.whole_run.proofs.returning.returned_stores_meet_the_start.Goals as goal

pub returns : goal.returns
returns c = λ program vars callee call line s x cells program_fits fits there fit none awaits part exit_fit exit_none leaves came kept met exit_met.
    let same : fits.callee ≡ callee = some_same fits.callee callee (sym fits.there ∙ there) in
    let proc = all-at (ProcFits program.types program.procs) program.procs call.callee callee program_fits.procs there in
    start_holds program.types program.procs vars callee call line callee.proc.last s x cells fits same proc fit none awaits part exit_fit exit_none
    leaves came there kept met exit_met
