use Rattle.std.proofs.Common.{Some, sym, ap, ◌∙◌}
use Rattle.pred_transform.proofs.CutLemmas.{handed-arrived, plain-arrived}
use Rattle.pred_transform.proofs.cuts.arrive.Goals as goal

pub returns-in_ok-arrive_at_call-in-Some : goal.returns-in_ok-arrive_at_call-in-Some
returns-in_ok-arrive_at_call-in-Some c = λ next wanted s is.
    handed-arrived c.args.l.now.types c.args.l.now.vars next wanted c.args.cut.now s c.as_slice.result.now c.arrive_at_call.new.w
    (c.in-Some.is ∙ ap Some (sym c.as_slice.ensures)) (c.in_ok-arrive_at_call-in-Some.ensures next wanted s is)

pub returns-in_ok-arrive_alone-in-None : goal.returns-in_ok-arrive_alone-in-None
returns-in_ok-arrive_alone-in-None c = λ next wanted s is.
    plain-arrived c.args.l.now.types c.args.l.now.vars next wanted c.args.cut.now s c.arrive_alone.new.w c.in-None.is
    (c.in_ok-arrive_alone-in-None.ensures next wanted s is)
