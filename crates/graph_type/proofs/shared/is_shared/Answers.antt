use Rattle.std.proofs.Common.{◌≡◌, IfOk, subst, ap, ap₂, ◌∙◌}
use Rattle.ws2s_core.specs.declared.formula.Formula.{Formula}
use Rattle.ws2s_core.specs.declared.formula.Formula.TheVariants.{And}
use Rattle.ws2s_forms.specs.Forms.{or_list}
use Rattle.graph_type.proofs.shared.is_shared.Goals as goal

pub returns : goal.returns
returns c =
    subst (λ (whole : Formula). IfOk c.and.result (λ formula. formula ≡ whole))
    (ap₂ And c.in_ok-live.ensures (c.in_ok-twice.ensures ∙ ap (or_list c.args.next) c.in_ok-parts.ensures)) c.and.ensures
