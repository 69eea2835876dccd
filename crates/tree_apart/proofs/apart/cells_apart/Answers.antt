use Rattle.std.proofs.Common.{rules, ◌≡◌}
use Rattle.std.proofs.lemmas.Result.{IfOk-weaker}
use Rattle.ws2s_core.specs.declared.formula.Formula.{Formula}
use Rattle.tree_encode.specs.Tracks.{track_count}
use Rattle.tree_apart.specs.Apart.{cells_apart, HoldsOfTrees}
use Rattle.tree_apart.proofs.ApartLemmas.{cells-hold}
use Rattle.tree_apart.proofs.apart.cells_apart.Goals as goal

pub returns-clause-holds : goal.returns-clause-holds
returns-clause-holds c =
    let types = c.args.l.now.types in
    let vars = c.args.l.now.vars in
    IfOk-weaker c.and_list.result (λ (f : Formula). f ≡ cells_apart (track_count types vars) types) (HoldsOfTrees types vars)
    (λ f is. cells-hold types vars f c.all_variants.ensures.inside is) (search rules)
