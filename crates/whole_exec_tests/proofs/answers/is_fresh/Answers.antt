use Rattle.std.proofs.Common.{List, sym, subst}
use Rattle.store_core.specs.Tables.{TypeEntry}
use Rattle.store_core.specs.Stores.{Fits}
use Rattle.whole_exec_tests.proofs.answers.is_fresh.Goals as goal

pub well_formed-requires : goal.well_formed-requires
well_formed-requires c = subst (λ (types : List TypeEntry). Fits types c.args.vars.now c.args.store.now) (sym c.types.ensures) c.requires

pub returns-in-None : goal.returns-in-None
returns-in-None c = λ yes.
    (c.well_formed_stores_are_fresh.ensures c.types.result.now c.args.vars.now c.args.store.now (c.in_ok-well_formed.ensures.none.0 c.in-None.is)).1
