use Rattle.std.proofs.Common.{◌≡◌, ◌∷◌, Some, IfOk, reverse, subst, ap, sym, ◌∙◌}
use Rattle.store_core.specs.declared.kind.Route.{Route, out-roll-Route}
use Rattle.store_core.specs.declared.kind.Route.TheOpen.{Route-F}
use Rattle.store_core.specs.declared.kind.Route.TheVariants.{rolls-IsBool}
use Rattle.store_core.specs.Postfix.{Form, form_of, without_parts}
use Rattle.graph_view.specs.Fields.{is_reference}
use Rattle.graph_view.specs.Routes.{walk_rules, stays_at_truth, names}
use Rattle.graph_view.specs.Sights.{sight_of}
use Rattle.graph_routes.specs.Legs.{applied}
use Rattle.graph_routes.proofs.WalkLemmas.{filled}
use Rattle.graph_routes.proofs.walks.walk_of.Goals as goal

pub returns-in-IsBool : goal.returns-in-IsBool
returns-in-IsBool c =
    let types = c.args.l.now.types in
    let sight = sight_of c.args.l.now.vars c.args.view.now in
    let leg = c.args.leg in
    let made = reverse c.args.made.now.items in
    let form : form_of leg.route.now ≡ Route-F.IsBool c.in-IsBool.name c.in-IsBool.value =
    ap form_of (c.in-IsBool.is ∙ sym (rolls-IsBool c.in-IsBool.name c.in-IsBool.value))
    ∙ ap (without_parts Route) (out-roll-Route (Route-F.IsBool c.in-IsBool.name c.in-IsBool.value)) in
    subst (λ (f : Form). IfOk c.stay_at_truth.result (λ walk. applied (walk_rules types sight (names types sight) is_reference)
    (record { form = f; next = leg.next; from = leg.from; to = leg.to }) made ≡ Some (walk ∷ made)))
    (sym form)
    (filled c.stay_at_truth.result (stays_at_truth types sight c.in-IsBool.name c.in-IsBool.value leg.next leg.from leg.to)
    (stays_at_truth types sight c.as_slice-in-IsBool.result.now c.in-IsBool.value leg.next leg.from leg.to) made
    (ap (λ name. stays_at_truth types sight name c.in-IsBool.value leg.next leg.from leg.to) c.as_slice-in-IsBool.ensures) c.stay_at_truth.ensures)
