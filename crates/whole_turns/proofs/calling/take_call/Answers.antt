use Rattle.std.proofs.Common.{◌≡◌, Ok, Err, is_some, ap, sym, subst, arith}
use Rattle.store_exec.specs.declared.triple.Cut.{Cut}
use Rattle.store_exec.specs.Fits.{CutFits}
use Rattle.hoare_split.specs.Picking.{is_awaited}
use Rattle.hoare_split.specs.Settings.{settings}
use Rattle.hoare_split.specs.Cuts.{call_cut}
use Rattle.hoare_split.proofs.FittingClaimLemmas.{call-arrival, call-settings}
use Rattle.whole_run.specs.Turns.{Begins}
use Rattle.whole_turns.specs.Standings.{frame_of, all_waiting}
use Rattle.whole_turns.specs.Turning.{CanSet, SetsAs}
use Rattle.whole_turns.proofs.Forms.{arrived_on, arrived_fault, halted_set}
use Rattle.whole_turns.proofs.calling.take_call.Goals as goal

-- the settings before a call can be executed
pub set_and_arrive-requires-clause-set : goal.set_and_arrive-requires-clause-set
set_and_arrive-requires-clause-set c =
    let program = c.args.program.now in
    let vars = (c.args.activation).vars.now in
    let call = c.args.call.now in
    let ready = c.requires.ready in
    let line : (c.in_ok-cut.cut).line ≡ c.args.place.line = ap (λ (cut : Cut). cut.line) c.in_ok-cut.ensures in
    subst (λ n. CanSet program vars (settings vars (is_awaited call) n) c.args.store) (sym line) (record {
      fits = ready.fits;
      fresh = ready.fresh;
      items_fit = call-settings c.claims_with_actuals_put_in_fit.ensures program.types program.procs c.requires.program.procs vars call c.requires.call
          c.args.place.line;
      room = let room = ready.room in omega (arith, room);
    })

pub set_and_arrive-requires-clause-cut : goal.set_and_arrive-requires-clause-cut
set_and_arrive-requires-clause-cut c =
    let program = c.args.program.now in
    let vars = (c.args.activation).vars.now in
    subst (CutFits program.types vars) (sym c.in_ok-cut.ensures)
    (call-arrival c.claims_with_actuals_put_in_fit.ensures program.types program.procs c.requires.program.procs vars c.args.call.now c.requires.call
    c.args.place).0

-- there is a callee
pub begin-requires : goal.begin-requires
begin-requires c = record { callee = ap is_some c.requires.call.there }

pub returns-in-Ok-clause-goes : goal.returns-in-Ok-clause-goes
returns-in-Ok-clause-goes c =
    let program = c.args.program.now in
    let a = c.args.activation in
    let call = c.args.call.now in
    let cut = call_cut program.procs a.vars.now c.args.place.line call in
    let sets = subst (λ (x : Cut). SetsAs program.types a.vars.now (settings a.vars.now (is_awaited call) x.line) x c.args.store (Ok c.in-Ok.after))
    c.in_ok-cut.ensures
    (subst (SetsAs program.types a.vars.now (settings a.vars.now (is_awaited call) (c.in_ok-cut.cut).line) c.in_ok-cut.cut c.args.store) c.in-Ok.is
    c.in_ok-arrived.ensures) in (
      sets.0,
      sets.1,
      arrived_on program.types a.vars.now sets.0 cut
          (λ t after. Begins program call (frame_of a t) (all_waiting c.args.waiting.now) after) c.in-Ok.after _ sets.2 c.in_ok-begin-in-Ok.ensures,
    )

pub returns-clause-goes : goal.returns-clause-goes
returns-clause-goes c =
    let program = c.args.program.now in
    let a = c.args.activation in
    let call = c.args.call.now in
    let cut = call_cut program.procs a.vars.now c.args.place.line call in
    let sets = subst (λ (x : Cut). SetsAs program.types a.vars.now (settings a.vars.now (is_awaited call) x.line) x c.args.store (Err c.in-Err.fault))
    c.in_ok-cut.ensures
    (subst (SetsAs program.types a.vars.now (settings a.vars.now (is_awaited call) (c.in_ok-cut.cut).line) c.in_ok-cut.cut c.args.store) c.in-Err.is
    c.in_ok-arrived.ensures) in (
      sets.0,
      sets.1,
      arrived_fault program.types a.vars.now sets.0 cut (λ t after. Begins program call (frame_of a t) (all_waiting c.args.waiting.now) after)
          c.in-Err.fault sets.2,
    )

-- it stands at the store after the settings
pub returns-clause-stops : goal.returns-clause-stops
returns-clause-stops c =
    let program = c.args.program.now in
    let a = c.args.activation in
    let call = c.args.call.now in
    let sets = subst (λ (x : Cut). SetsAs program.types a.vars.now (settings a.vars.now (is_awaited call) x.line) x c.args.store (Err c.in-Err.fault))
    c.in_ok-cut.ensures
    (subst (SetsAs program.types a.vars.now (settings a.vars.now (is_awaited call) (c.in_ok-cut.cut).line) c.in_ok-cut.cut c.args.store) c.in-Err.is
    c.in_ok-arrived.ensures) in
    halted_set program.types a.vars.now (settings a.vars.now (is_awaited call) c.args.place.line)
    (call_cut program.procs a.vars.now c.args.place.line call) c.args.store c.in-Err.fault sets
