use Rattle.std.proofs.Common.{ap}
use Rattle.pred_transform.proofs.FormulaLemmas.{first-told}
use Rattle.pred_transform.proofs.formula.first_bound.Goals as goal

pub returns : goal.returns
returns c =
    first-told c.args.l.now.types c.args.l.now.vars c.args.t.now c.args.site c.in_ok-next.next.0 c.in_ok-first.first c.in_ok-first.ensures
    (ap (λ track. track.0) c.in_ok-next.ensures)
