use Rattle.std.proofs.Common.{◌≡◌, sym, ◌∙◌}
use Rattle.pale_typed.specs.Fitting.{ProcFits}
use Rattle.hoare_split.proofs.FittingVariableLemmas.{all-at}
use Rattle.whole_run.proofs.Handed.{some_same}
use Rattle.whole_run.proofs.Returned.{returned_well_formed}
use Rattle.whole_run.proofs.returning.returned_stores_are_well_formed.Goals as goal

pub returns : goal.returns
returns c = λ program vars callee call line s x cells program_fits fits there fit none awaits part exit_fit exit_none leaves came.
    let same : fits.callee ≡ callee = some_same fits.callee callee (sym fits.there ∙ there) in
    let proc = all-at (ProcFits program.types program.procs) program.procs call.callee callee program_fits.procs there in
    returned_well_formed program.types program.procs vars callee call line callee.proc.last s x cells fits same proc fit none awaits part exit_fit exit_none
    leaves came
