use Rattle.std.proofs.Common.{◌-◌, ap, ◌∙◌, arith}
use Rattle.ws2s_reduce.specs.Building.{quantified_at, wrapped}
use Rattle.ws2s_reduce.proofs.TermsLemmas.{wrapped-next}
use Rattle.ws2s_reduce.proofs.forms.wrapped.Goals as goal

pub loop-left-preserved : goal.loop-left-preserved
loop-left-preserved c =
    ap (wrapped c.args.quantifier c.args.first (c.loop-left.left - 1))
    (c.in_ok-formula.ensures ∙ ap (λ t. quantified_at c.args.quantifier t c.loop-left.formula) c.in_ok-own.ensures)
    ∙ wrapped-next c.args.quantifier c.args.first c.loop-left.left c.loop-left.formula (omega arith)
    ∙ c.loop-left.invariant
