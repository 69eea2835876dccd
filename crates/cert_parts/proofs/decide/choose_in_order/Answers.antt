use Rattle.std.proofs.Common.{ℕ, if◌then◌else◌}
use Rattle.std.proofs.lemmas.Result.{IfOk-weaker}
use Rattle.labels.specs.Labels.{Label}
use Rattle.cert_parts.specs.Leading.{LeadsTo}
use Rattle.cert_parts.proofs.DecideLemmas.{leads-kept, either, chosen_at}
use Rattle.cert_parts.proofs.decide.choose_in_order.Goals as goal

pub returns-clause-leads : goal.returns-clause-leads
returns-clause-leads c =
    let first = c.choose_state.new.nodes in
    let second = c.choose_state-2.new.nodes in
    let new = c.choose.new.nodes in
    let choice = c.args.choice in
    let f = λ (label : Label). if label c.args.y then choice.second else choice.neither in
    let h = λ (label : Label). if label c.args.y then choice.both else choice.first in
    IfOk-weaker c.choose.result
    (λ t. (f h : Label → ℕ) → LeadsTo second c.in_ok-low.low f → LeadsTo second c.in_ok-high.high h → LeadsTo new t (either c.args.x f h))
    (λ t. LeadsTo new t (chosen_at choice c.args.x c.args.y))
    (λ t leads. leads f h (leads-kept first second c.in_ok-low.low f c.in_ok-high.ensures.grown c.in_ok-low.ensures.leads) c.in_ok-high.ensures.leads)
    c.choose.ensures.leads
