use Rattle.std.proofs.Common.{List, sym, subst}
use Rattle.store_core.specs.Tables.{TypeEntry}
use Rattle.store_logic.specs.Fits.{KnowsVars}
use Rattle.site_tests.proofs.KnownLemmas.{vars-known}
use Rattle.site_tests.proofs.telling.push_triple.Goals as goal

pub layout_of-requires : goal.layout_of-requires
layout_of-requires c =
    subst (λ (types : List TypeEntry). KnowsVars types c.in-Some.vars.now) (sym c.types.ensures)
    (vars-known c.args.typed.now c.args.t.now.proc c.in-Some.vars.now c.requires c.in-Some.ensures)
