use Rattle.std.proofs.Common.{ℕ, if◌then◌else◌}
use Rattle.std.proofs.lemmas.Result.{IfOk-weaker}
use Rattle.labels.specs.Labels.{Label}
use Rattle.cert_text.specs.declared.line.Target.{Target}
use Rattle.cert_parts.specs.Leading.{LeadsTo}
use Rattle.cert_parts.proofs.DecideLemmas.{leads-state, either}
use Rattle.cert_parts.proofs.decide.choose_state.Goals as goal

pub returns-clause-leads : goal.returns-clause-leads
returns-clause-leads c =
    let old = c.args.nodes.now in
    let new = c.choose.new.nodes in
    let low = c.args.low in
    let high = c.args.high in
    IfOk-weaker c.choose.result
    (λ t. (f h : Label → ℕ) → LeadsTo old (Target.State low) f → LeadsTo old (Target.State high) h → LeadsTo new t (either c.args.track f h))
    (λ t. LeadsTo new t (λ label. if label c.args.track then high else low))
    (λ t leads. leads (λ label. low) (λ label. high) (leads-state old low) (leads-state old high)) c.choose.ensures.leads
