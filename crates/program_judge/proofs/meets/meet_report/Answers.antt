use Rattle.std.proofs.Common.{subst, sym}
use Rattle.store_exec.specs.declared.triple.Triple.{Triple}
use Rattle.hoare_split.specs.Fitting.{FitsProgram}
use Rattle.program_judge.proofs.AskingLemmas.{asking-fits}
use Rattle.program_judge.proofs.meets.meet_report.Goals as goal

pub report_of-requires-clause-triple : goal.report_of-requires-clause-triple
report_of-requires-clause-triple g c =
    subst (λ (u : Triple). FitsProgram c.args.typed.now u) (sym c.in_ok-asked.ensures) (asking-fits c.args.typed.now c.args.t.now c.requires.triple)
