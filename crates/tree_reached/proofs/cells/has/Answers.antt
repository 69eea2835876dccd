use Rattle.std.proofs.Common.{◌≡◌, ◌∙◌}
use Rattle.std.proofs.lemmas.Result.{IfOk-weaker}
use Rattle.ws2s_core.specs.declared.formula.Formula.{Formula}
use Rattle.tree_formula.specs.WellEncoded.{has}
use Rattle.graph_view.specs.Sights.{sight_of}
use Rattle.graph_view.specs.Live as live
use Rattle.tree_reached.proofs.CellsLemmas.{has-first}
use Rattle.tree_reached.proofs.cells.has.Goals as goal

pub returns : goal.returns
returns c =
    let types = c.args.l.now.types in
    let vars = c.args.l.now.vars in
    let view = c.first_view-first.result in
    IfOk-weaker c.has.result (λ (f : Formula). f ≡ live.has types (sight_of vars view) c.args.next c.args.f c.args.a)
    (λ (f : Formula). f ≡ has c.args.next types c.args.f c.args.a)
    (λ f is. is ∙ has-first types vars view c.first_view-first.ensures.events c.first_view-first.ensures.region c.args.next c.args.f c.args.a)
    c.has.ensures
