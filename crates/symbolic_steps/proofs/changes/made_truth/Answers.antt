use Rattle.symbolic_steps.proofs.ChangeLemmas.{truth-made}
use Rattle.symbolic_steps.proofs.changes.made_truth.Goals as goal

pub returns : goal.returns
returns c = λ next wanted text s reaches is.
    truth-made c.args.l.now.types c.args.l.now.vars next wanted text s c.args.w.now c.define.new.w c.args.holds.now c.in_ok-definition.definition
    c.in_ok-own.own reaches is c.in_ok-own.ensures c.in_ok-definition.ensures c.in_ok-define.ensures
