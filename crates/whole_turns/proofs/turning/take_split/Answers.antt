use Rattle.std.proofs.Common.{◌≡◌, List, Ok, Err, refl, sym, subst}
use Rattle.store_core.specs.Tables.{TypeEntry}
use Rattle.store_exec.specs.declared.triple.Cut.{Cut}
use Rattle.store_exec.specs.Fits.{CutFits}
use Rattle.hoare_split.specs.Cuts.{plain_cut}
use Rattle.whole_run.specs.States.{goes}
use Rattle.whole_run.specs.Turns.{on_with}
use Rattle.store_core.specs.Stores.{Fits}
use Rattle.whole_turns.specs.Standings.{entry_of, left_of}
use Rattle.whole_turns.specs.Turning.{ArrivesAs}
use Rattle.whole_turns.proofs.Forms.{plain_fits, arrived_on, arrived_fault}
use Rattle.whole_turns.proofs.turning.take_split.Goals as goal

pub arrive-requires-clause-fits : goal.arrive-requires-clause-fits
arrive-requires-clause-fits c =
    subst (λ (types : List TypeEntry). Fits types (c.args.activation).vars.now c.args.store) (sym c.types.ensures) (c.requires.ready).fits

pub arrive-requires-clause-cut : goal.arrive-requires-clause-cut
arrive-requires-clause-cut c =
    let vars = (c.args.activation).vars.now in
    subst (CutFits c.types.result.now vars) (sym c.in_ok-cut.ensures)
    (subst (λ (types : List TypeEntry). CutFits types vars (plain_cut c.args.place.line c.args.assertion.now)) (sym c.types.ensures)
    (plain_fits (c.args.program.now).types vars c.args.place.line c.args.assertion.now c.requires.assertion))

pub returns-in-Ok-clause-goes : goal.returns-in-Ok-clause-goes
returns-in-Ok-clause-goes c = λ waiting.
    let types = (c.args.program.now).types in
    let vars = (c.args.activation).vars.now in
    let cut = plain_cut c.args.place.line c.args.assertion.now in
    let arrives = subst (λ (x : Cut). ArrivesAs types vars x c.args.store (Ok c.in-Ok.after)) c.in_ok-cut.ensures
    (subst (λ (ts : List TypeEntry). ArrivesAs ts vars c.in_ok-cut.cut c.args.store (Ok c.in-Ok.after)) c.types.ensures
    (subst (ArrivesAs c.types.result.now vars c.in_ok-cut.cut c.args.store) c.in-Ok.is c.in_ok-after.ensures)) in
    arrived_on types vars c.args.store cut
    (λ t after. after ≡ goes (on_with (entry_of c.args.activation) waiting (left_of (c.args.activation).left) t)) c.in-Ok.after _ arrives
    (refl)

pub returns-clause-goes : goal.returns-clause-goes
returns-clause-goes c = λ waiting.
    let types = (c.args.program.now).types in
    let vars = (c.args.activation).vars.now in
    let cut = plain_cut c.args.place.line c.args.assertion.now in
    let arrives = subst (λ (x : Cut). ArrivesAs types vars x c.args.store (Err c.in-Err.fault)) c.in_ok-cut.ensures
    (subst (λ (ts : List TypeEntry). ArrivesAs ts vars c.in_ok-cut.cut c.args.store (Err c.in-Err.fault)) c.types.ensures
    (subst (ArrivesAs c.types.result.now vars c.in_ok-cut.cut c.args.store) c.in-Err.is c.in_ok-after.ensures)) in
    arrived_fault types vars c.args.store cut
    (λ t after. after ≡ goes (on_with (entry_of c.args.activation) waiting (left_of (c.args.activation).left) t)) c.in-Err.fault arrives

pub returns-clause-stops : goal.returns-clause-stops
returns-clause-stops c =
    let arrives = subst (ArrivesAs c.types.result.now (c.args.activation).vars.now c.in_ok-cut.cut c.args.store) c.in-Err.is c.in_ok-after.ensures in
    arrives.2
