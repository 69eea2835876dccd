use Rattle.std.proofs.Common.{List, sym, subst}
use Rattle.std.proofs.lemmas.Result.{IfOk-weaker}
use Rattle.store_core.specs.Tables.{TypeEntry}
use Rattle.store_core.specs.Stores.{Fits}
use Rattle.store_exec.specs.Fits.{CutFits}
use Rattle.store_exec.proofs.ItemsKeepLemmas.{items-keep}
use Rattle.hoare_split.specs.Picking.{test_of}
use Rattle.hoare_split.specs.Settings.{settings}
use Rattle.whole_turns.specs.Turning.{ArrivesAs}
use Rattle.whole_turns.proofs.arriving.set_and_arrive.Goals as goal

-- settings keep the store fitting
pub arrive-requires-clause-fits : goal.arrive-requires-clause-fits
arrive-requires-clause-fits c =
    let caller = c.args.caller in
    let after = items-keep (caller.program.now).types caller.vars.now (settings caller.vars.now (test_of c.args.pick) (c.args.cut.now).line)
    c.args.store c.in_ok-after.after (record { fits = c.requires.set.fits; fresh = c.requires.set.fresh }) c.requires.set.items_fit c.in_ok-after.ensures in
    subst (λ (types : List TypeEntry). Fits types caller.vars.now c.in_ok-after.after) (sym c.types.ensures) (after.well).fits

pub arrive-requires-clause-cut : goal.arrive-requires-clause-cut
arrive-requires-clause-cut c =
    subst (λ (types : List TypeEntry). CutFits types (c.args.caller).vars.now c.args.cut.now) (sym c.types.ensures) c.requires.cut

pub returns : goal.returns
returns c = IfOk-weaker c.arrive.result _ _ (λ end arrives. (
  c.in_ok-after.after,
  c.in_ok-after.ensures,
  subst (λ (types : List TypeEntry). ArrivesAs types (c.args.caller).vars.now c.args.cut.now c.in_ok-after.after end) c.types.ensures arrives,
)) c.arrive.ensures
