use Rattle.std.proofs.Common.{◌≡◌, Some, sym, ◌∙◌}
use Rattle.pale_typed.specs.Fitting.{ProcFits}
use Rattle.hoare_split.proofs.FittingVariableLemmas.{all-at}
use Rattle.whole_run.proofs.Handed.{some_same}
use Rattle.whole_run.proofs.HandedStart.{is_well_formed, entry_holds}
use Rattle.whole_run.proofs.handing.handed_stores_meet_the_entry.Goals as goal

pub returns : goal.returns
returns c = λ program vars callee call line s cells program_fits fits there fit none part.
    let same : fits.callee ≡ callee = some_same fits.callee callee (sym fits.there ∙ there) in
    let proc = all-at (ProcFits program.types program.procs) program.procs call.callee callee program_fits.procs there in (
      is_well_formed program.types program.procs vars callee call line s cells fits same proc there fit none part,
      entry_holds program.types program.procs vars callee call line s cells fits same proc there fit none part,
    )
