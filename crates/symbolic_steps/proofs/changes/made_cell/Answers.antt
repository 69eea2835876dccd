use Rattle.std.proofs.Common.{ℕ, ◌+◌, ap, ◌∙◌}
use Rattle.graph_view.specs.Sights.{var_slots}
use Rattle.symbolic_steps.proofs.ChangeLemmas.{cell-made}
use Rattle.symbolic_steps.proofs.changes.made_cell.Goals as goal

pub returns : goal.returns
returns c = λ next wanted s is.
    cell-made c.args.l.now.types c.args.l.now.vars next wanted c.args.variant s c.args.w.now c.happens.new.w c.define.new.w c.in_ok-definition.definition
    c.in_ok-own.own c.in_ok-more.more c.in_ok-number.number is c.in_ok-own.ensures
    (c.in_ok-number.ensures ∙ ap (λ (n : ℕ). n + c.args.w.now.news) (c.var_slots-before.ensures ∙ ap var_slots c.vars.ensures.value))
    c.in_ok-definition.ensures c.in_ok-happens.ensures c.in_ok-more.ensures c.in_ok-define.ensures
