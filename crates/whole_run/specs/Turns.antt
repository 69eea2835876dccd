-- One step of a whole run: an assignment, `free` or `assert`, the whole condition of an `if` or of a `while`, the cut of a `while`,
-- a `split`, a call together with its cut, an exit, or a return. `skip` and settings to null or false take none.
use Rattle.std.specs.Prelude.{◌≡◌, ◌⊎◌, ℕ, Bool, List, [], ◌∷◌, ◌++◌, Some, None, slice_get, Result, Ok, Err, if◌then◌else◌}
use Rattle.store_core.specs.declared.ids.CellId.{CellId}
use Rattle.store_core.specs.Tables.{TypeEntry, VarEntry}
use Rattle.store_core.specs.Stores.{StoreMap}
use Rattle.routing_walks.specs.Regions.{IsPart}
use Rattle.store_logic.specs.declared.assertion.Assertion.{Assertion}
use Rattle.store_logic.specs.declared.cond.Cond.{Cond}
use Rattle.store_exec.specs.declared.cause.Cause.{Cause}
use Rattle.store_exec.specs.declared.code.Item.{Item}
use Rattle.store_exec.specs.declared.triple.Cut.{Cut}
use Rattle.store_exec.specs.Steps.{truth_of}
use Rattle.store_exec.specs.Runs.{Ending, Does, RunsItems}
use Rattle.store_exec.specs.Cuts.{AtCut}
use Rattle.store_exec.specs.Restricted.{restricted}
use Rattle.pale_text.specs.declared.place.Pos.{Pos}
use Rattle.pale_typed.specs.declared.typed.CallParts.{CallParts}
use Rattle.pale_typed.specs.declared.typed.ProcEntry.{ProcEntry}
use Rattle.pale_typed.specs.declared.typed.Stmt.{Stmt, out-Stmt}
use Rattle.pale_typed.specs.declared.typed.Stmt.TheVariants as stmt
use Rattle.pale_typed.specs.declared.typed.Stmt.TheOpen.{Stmt-F}
use Rattle.pale_typed.specs.TypedPrograms.{TypedProgram}
use Rattle.hoare_split.specs.Picking.{is_awaited, is_left}
use Rattle.hoare_split.specs.Settings.{settings}
use Rattle.hoare_split.specs.Calls.{handed_by}
use Rattle.hoare_split.specs.Cuts.{plain_cut, call_cut}
use Rattle.whole_run.specs.States.{Frame, Waiting, State, runs, exited, Turn, goes, fails}
use Rattle.whole_run.specs.Handing.{handed_store, rest_store, returned_store}

-- ---- what a step leads to

-- on from the store where an act ends; a fault ends the run
abbrev pub from_ending : (StoreMap → State) → Ending → Turn
from_ending next (Ok t) = goes (next t)
from_ending next (Err fault) = fails fault.cause fault.line

-- on as the condition is true or false; one that can't be read ends the run at its line
abbrev pub from_truth : ℕ → (Bool → State) → Result Bool Cause → Turn
from_truth line next (Ok truth) = goes (next truth)
from_truth line next (Err why) = fails why line

-- the store arrives at a cut: without a cause the run goes on with the logic sets restricted to the live cells; a cause there
-- ends it at the cut's line
abbrev pub Arrives : List TypeEntry → List VarEntry → StoreMap → Cut → (StoreMap → Turn → Type 0) → Turn → Type 0
Arrives types vars s cut Next turn =
    (AtCut types vars cut s None × Next (restricted s) turn)
    ⊎ ((why : Cause) × AtCut types vars cut s (Some why) × (turn ≡ fails why cut.line))

-- the variables are set first, which takes no step
abbrev pub AfterSettings : List TypeEntry → List Item → StoreMap → (StoreMap → Type 0) → Type 0
AfterSettings types items s Next = (t : StoreMap) × RunsItems types items s (Ok t) × Next t

-- ---- calls and returns

-- the callee runs on the handed part alone, and the call waits with the rest
abbrev pub Begins : TypedProgram → CallParts → Frame → List Waiting → Turn → Type 0
Begins program call f waiting turn =
    (callee : ProcEntry) × (cells : List CellId)
    × (slice_get program.procs call.callee ≡ Some callee)
    × IsPart program.types f.entry.vars f.store (handed_by f.entry.vars call.args) cells
    × (turn ≡ goes (runs (record { entry = callee; store = handed_store callee call f.store cells; left = callee.proc.body })
    (record { call = call; caller = record f { store = rest_store f.store cells } } ∷ waiting)))

-- the callee has exited with the store t, and the caller goes on
abbrev pub Returns : TypedProgram → StoreMap → Waiting → List Waiting → Turn → Type 0
Returns program t w waiting turn =
    (callee : ProcEntry) × (slice_get program.procs w.call.callee ≡ Some callee)
    × (turn ≡ goes (runs (record w.caller { store = returned_store w.caller.entry.vars w.call callee.proc.results w.caller.store t }) waiting))

-- ---- statements and exits

-- a loop behind its cut: where the condition is true, the body and then the loop again
abbrev pub behind_cut : Pos → Cond → Assertion → List Stmt → Stmt
behind_cut place c invariant body = stmt.If place.line c (body ++ stmt.While place c invariant body ∷ []) []

-- a procedure runs on with this store and these statements
abbrev pub on_with : ProcEntry → List Waiting → List Stmt → StoreMap → State
on_with entry waiting left s = runs (record { entry = entry; store = s; left = left }) waiting

-- by the form of the next statement, behind which others are left; `skip` takes no step, and so what these do
abbrev pub TakesForm : TypedProgram → ProcEntry → List Waiting → StoreMap → List Stmt → (Turn → Type 0) → Stmt-F Stmt → Turn → Type 0
TakesForm program entry waiting s left Later Stmt-F.Skip turn = Later turn
TakesForm program entry waiting s left Later (Stmt-F.Do line a) turn =
    (end : Ending) × Does program.types line s a end × (turn ≡ from_ending (on_with entry waiting left) end)
TakesForm program entry waiting s left Later (Stmt-F.If line c first other) turn =
    turn ≡ from_truth line (λ truth. on_with entry waiting ((if truth then first else other) ++ left) s) (truth_of s c)
TakesForm program entry waiting s left Later (Stmt-F.While place c invariant body) turn =
    Arrives program.types entry.vars s (plain_cut place.line invariant)
    (λ t next. next ≡ goes (on_with entry waiting (behind_cut place c invariant body ∷ left) t)) turn
TakesForm program entry waiting s left Later (Stmt-F.Split place a) turn =
    Arrives program.types entry.vars s (plain_cut place.line a) (λ t next. next ≡ goes (on_with entry waiting left t)) turn
TakesForm program entry waiting s left Later (Stmt-F.Call place call) turn =
    AfterSettings program.types (settings entry.vars (is_awaited call) place.line) s (λ u.
    Arrives program.types entry.vars u (call_cut program.procs entry.vars place.line call)
    (λ t next. Begins program call (record { entry = entry; store = t; left = left }) waiting next) turn)

-- at the exit every data and pointer variable that is no result is set to null
abbrev pub Exits : TypedProgram → ProcEntry → List Waiting → StoreMap → Turn → Type 0
Exits program entry waiting s turn =
    AfterSettings program.types (settings entry.vars (is_left entry.proc) entry.proc.last) s (λ u.
    Arrives program.types entry.vars u (plain_cut entry.proc.last entry.proc.post) (λ t next. next ≡ goes (exited t waiting)) turn)

-- one step of a procedure by the statements that are left: where none is, it exits
abbrev pub Takes : TypedProgram → ProcEntry → List Waiting → StoreMap → List Stmt → Turn → Type 0
Takes program entry waiting s [] turn = Exits program entry waiting s turn
Takes program entry waiting s (next ∷ left) turn =
    TakesForm program entry waiting s left (Takes program entry waiting s left) (out-Stmt next) turn
