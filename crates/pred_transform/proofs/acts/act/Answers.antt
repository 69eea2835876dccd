use Rattle.std.proofs.Common.{sym, subst}
use Rattle.store_logic.specs.declared.act.Act.{Act}
use Rattle.site_list.specs.Acts.{act_rule}
use Rattle.symbolic_steps.specs.Shown.{Leads}
use Rattle.pred_transform.proofs.acts.act.Goals as goal

pub returns-in_ok-assert-in-Assert : goal.returns-in_ok-assert-in-Assert
returns-in_ok-assert-in-Assert c = λ line.
    subst (λ (a : Act). Leads c.args.w.now c.assert.new.w (act_rule c.args.l.now.types c.args.l.now.vars line a)) (sym c.in-Assert.is)
    (c.in_ok-assert-in-Assert.ensures line)
