use Rattle.std.proofs.Common.{List, sym, subst}
use Rattle.store_core.specs.Tables.{TypeEntry}
use Rattle.store_logic.specs.Fits.{KnowsVars}
use Rattle.store_gallery.proofs.KnownLemmas.{vars-known}
use Rattle.store_gallery.proofs.programs.layout_of.Goals as goal

pub layout_over-requires : goal.layout_over-requires
layout_over-requires c =
    subst (λ (types : List TypeEntry). KnowsVars types c.in-Some.vars.now) (sym c.types.ensures)
    (vars-known c.args.typed.now 0 c.in-Some.vars.now c.requires c.in-Some.ensures)
