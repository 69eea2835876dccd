use Rattle.std.proofs.Common.{◌≡◌, Ok, Err, refl, ap, sym, subst, arith}
use Rattle.store_exec.specs.declared.triple.Cut.{Cut}
use Rattle.store_exec.specs.Fits.{CutFits}
use Rattle.hoare_split.specs.Picking.{is_left}
use Rattle.hoare_split.specs.Settings.{settings}
use Rattle.hoare_split.specs.Cuts.{plain_cut}
use Rattle.hoare_split.proofs.FittingVariableLemmas.{left-program, settings-fit}
use Rattle.whole_run.specs.States.{exited, goes}
use Rattle.whole_turns.specs.Turning.{CanSet, SetsAs}
use Rattle.whole_turns.proofs.Forms.{plain_fits, arrived_on, arrived_fault, halted_set}
use Rattle.whole_turns.proofs.turning.take_exit.Goals as goal

pub set_and_arrive-requires-clause-set : goal.set_and_arrive-requires-clause-set
set_and_arrive-requires-clause-set c =
    let program = c.args.program.now in
    let vars = (c.args.activation).vars.now in
    let proc = (c.args.activation).proc.now in
    let line : (c.in_ok-cut.cut).line ≡ proc.last = ap (λ (cut : Cut). cut.line) c.in_ok-cut.ensures in
    subst (λ n. CanSet program vars (settings vars (is_left proc) n) c.args.store) (sym line) (record {
      fits = c.requires.fits;
      fresh = c.requires.fresh;
      items_fit = settings-fit program.types vars (is_left proc) proc.last (left-program vars proc);
      room = let room = c.requires.room in omega (arith, room);
    })

pub set_and_arrive-requires-clause-cut : goal.set_and_arrive-requires-clause-cut
set_and_arrive-requires-clause-cut c =
    let program = c.args.program.now in
    let vars = (c.args.activation).vars.now in
    let proc = (c.args.activation).proc.now in
    subst (CutFits program.types vars) (sym c.in_ok-cut.ensures) (plain_fits program.types vars proc.last proc.post ((c.requires.proc).post).fits)

pub returns-in-Ok-clause-goes : goal.returns-in-Ok-clause-goes
returns-in-Ok-clause-goes c = λ waiting.
    let types = (c.args.program.now).types in
    let vars = (c.args.activation).vars.now in
    let proc = (c.args.activation).proc.now in
    let sets = subst (λ (x : Cut). SetsAs types vars (settings vars (is_left proc) x.line) x c.args.store (Ok c.in-Ok.after)) c.in_ok-cut.ensures
    (subst (SetsAs types vars (settings vars (is_left proc) (c.in_ok-cut.cut).line) c.in_ok-cut.cut c.args.store) c.in-Ok.is c.in_ok-after.ensures) in (
      sets.0,
      sets.1,
      arrived_on types vars sets.0 (plain_cut proc.last proc.post) (λ t after. after ≡ goes (exited t waiting)) c.in-Ok.after _ sets.2 refl,
    )

pub returns-clause-goes : goal.returns-clause-goes
returns-clause-goes c = λ waiting.
    let types = (c.args.program.now).types in
    let vars = (c.args.activation).vars.now in
    let proc = (c.args.activation).proc.now in
    let sets = subst (λ (x : Cut). SetsAs types vars (settings vars (is_left proc) x.line) x c.args.store (Err c.in-Err.fault)) c.in_ok-cut.ensures
    (subst (SetsAs types vars (settings vars (is_left proc) (c.in_ok-cut.cut).line) c.in_ok-cut.cut c.args.store) c.in-Err.is c.in_ok-after.ensures) in (
      sets.0,
      sets.1,
      arrived_fault types vars sets.0 (plain_cut proc.last proc.post) (λ t after. after ≡ goes (exited t waiting)) c.in-Err.fault sets.2,
    )

-- it stands at the store after the settings
pub returns-clause-stops : goal.returns-clause-stops
returns-clause-stops c =
    let types = (c.args.program.now).types in
    let vars = (c.args.activation).vars.now in
    let proc = (c.args.activation).proc.now in
    let sets = subst (λ (x : Cut). SetsAs types vars (settings vars (is_left proc) x.line) x c.args.store (Err c.in-Err.fault)) c.in_ok-cut.ensures
    (subst (SetsAs types vars (settings vars (is_left proc) (c.in_ok-cut.cut).line) c.in_ok-cut.cut c.args.store) c.in-Err.is c.in_ok-after.ensures) in
    halted_set types vars (settings vars (is_left proc) proc.last) (plain_cut proc.last proc.post) c.args.store c.in-Err.fault sets
