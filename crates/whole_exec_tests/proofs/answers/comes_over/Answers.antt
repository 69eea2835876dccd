use Rattle.std.proofs.Common.{List, sym, subst}
use Rattle.store_core.specs.Tables.{TypeEntry}
use Rattle.store_core.specs.Stores.{Fits}
use Rattle.whole_exec_tests.proofs.answers.comes_over.Goals as goal

pub comes_from-requires-clause-vars : goal.comes_from-requires-clause-vars
comes_from-requires-clause-vars c = sym c.in-Some.ensures

pub comes_from-requires-clause-fits : goal.comes_from-requires-clause-fits
comes_from-requires-clause-fits c =
    let vars = c.in-Some.vars.now in
    let read = c.in-Ok.read in
    subst (λ (types : List TypeEntry). Fits types vars read) c.types.ensures
    (c.read_stores_fit.ensures c.types.result.now vars c.args.store.now read c.in-Ok.ensures.store)
