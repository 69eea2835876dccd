use Rattle.std.proofs.Common.{sym, subst}
use Rattle.std.specs.Prelude.{not}
use Rattle.store_sat.specs.declared.task.Frame.{Frame}
use Rattle.store_sat.specs.Tasks.{known, surround_of, spot_of}
use Rattle.store_sat.specs.Steps.{Steps, with_frame}
use Rattle.store_sat.proofs.StepLemmas.{close_negated}
use Rattle.store_sat.proofs.judge.Judge.close.Goals as goal

pub returns-in-Not : goal.returns-in-Not
returns-in-Not c =
    let types = c.args.self.now.types.now in
    let s = c.args.self.now.store.now in
    let spot = spot_of s c.args.spine.now in
    subst (λ (f : Frame). Steps types s (with_frame (surround_of s f) spot) (known c.args.truth) spot (known (not c.args.truth))) (sym c.in-Not.is)
    (close_negated types s spot c.requires.1.1 c.args.truth)
