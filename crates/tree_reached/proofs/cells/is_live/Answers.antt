use Rattle.std.proofs.Common.{◌≡◌, ◌∙◌}
use Rattle.std.proofs.lemmas.Result.{IfOk-weaker}
use Rattle.ws2s_core.specs.declared.formula.Formula.{Formula}
use Rattle.tree_formula.specs.WellEncoded.{is_live}
use Rattle.graph_view.specs.Sights.{sight_of}
use Rattle.graph_view.specs.Live.{lives_in}
use Rattle.tree_reached.proofs.CellsLemmas.{lives_in-first}
use Rattle.tree_reached.proofs.cells.is_live.Goals as goal

pub returns : goal.returns
returns c =
    let types = c.args.l.now.types in
    let vars = c.args.l.now.vars in
    let view = c.first_view-first.result in
    IfOk-weaker c.lives_in.result (λ (f : Formula). f ≡ lives_in types (sight_of vars view) c.args.next c.args.ty c.args.a)
    (λ (f : Formula). f ≡ is_live c.args.next types c.args.ty c.args.a)
    (λ f is. is ∙ lives_in-first types vars view c.first_view-first.ensures.events c.first_view-first.ensures.region c.args.next c.args.ty c.args.a)
    c.lives_in.ensures
