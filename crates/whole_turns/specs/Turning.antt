-- What is asked of a step, and what is said of it.
use Rattle.std.specs.Prelude.{◌≡◌, ◌+◌, ◌<◌, ◌≤◌, ℕ, zero, suc, List, [], ◌∷◌, length, sum_by, Option, Some, None, slice_get, Result, Ok, Err, IfErr}
use Rattle.std.specs.List.{AllByRecursion}
use Rattle.store_core.specs.declared.ids.CellId.{CellId}
use Rattle.store_core.specs.Tables.{TypeEntry, VarEntry}
use Rattle.store_core.specs.Stores.{StoreMap, Fits, IsFresh, IsLive}
use Rattle.store_logic.specs.declared.act.Act.{Act}
use Rattle.store_exec.specs.declared.code.Item.{Item}
use Rattle.store_exec.specs.declared.triple.Cut.{Cut}
use Rattle.store_exec.specs.Fits.{ItemsFit}
use Rattle.store_exec.specs.Runs.{RunsItems}
use Rattle.store_exec.specs.Steps.{Step}
use Rattle.store_exec.specs.Cuts.{AtCut}
use Rattle.store_exec.specs.Restricted.{restricted}
use Rattle.pale_typed.specs.declared.typed.ProcEntry.{ProcEntry}
use Rattle.pale_typed.specs.declared.typed.Stmt.{Stmt}
use Rattle.pale_typed.specs.declared.typed.Stmt.TheVariants as stmt
use Rattle.pale_typed.specs.declared.typed.Stmt.TheOpen.{Stmt-F}
use Rattle.pale_typed.specs.TypedPrograms.{TypedProgram}
use Rattle.pale_typed.specs.Fitting.{ProcFits, StatementFits, StatementFitsNode}
use Rattle.whole_run.specs.States.{Waiting, State, runs, exited, Turn, goes, fails}
use Rattle.whole_run.specs.Turns.{TakesForm}
use Rattle.whole_turns.specs.declared.activation.Activation.{Activation}
use Rattle.whole_turns.specs.declared.activation.At.{At}
use Rattle.whole_turns.specs.declared.pieces.Piece.{Piece}
use Rattle.whole_turns.specs.declared.turning.Turned.{Turned}
use Rattle.whole_turns.specs.declared.turning.Turned.TheVariants as turned
use Rattle.whole_turns.specs.declared.halted.Halted.{Halted}
use Rattle.whole_turns.specs.declared.ending.RunEnd.{RunEnd}
use Rattle.whole_turns.specs.declared.ending.RunEnd.TheVariants as end
use Rattle.whole_trace.specs.Shown.{state_shows}
use Rattle.whole_trace.specs.Stopping.{FormStops, StopsAt}
use Rattle.whole_trace.specs.Traces.{Leads, calls_of}
use Rattle.store_trace.specs.declared.event.Event.{Event}
use Rattle.store_trace.specs.Recording.{recorded}
use Rattle.whole_turns.specs.Standings.{stmts_of, left_of, entry_of, state_of}

-- ---- the next statement

-- so many `skip` before the others
abbrev pub after_skips : ℕ → List Stmt → List Stmt
after_skips zero left = left
after_skips (suc n) left = stmt.Skip ∷ after_skips n left

-- the second are the first without some of the `skip` that stand before
abbrev pub Skips : List Stmt → List Stmt → Type 0
Skips xs ys = (n : ℕ) × (xs ≡ after_skips n ys)

-- how much is to be looked at
abbrev pub weight_of : List Piece → ℕ
weight_of pieces = sum_by (λ piece. length (stmts_of piece) + 1) pieces

-- ---- what is asked

-- a form of statement fits the variables
abbrev pub FormFits : TypedProgram → List VarEntry → Stmt-F Stmt → Type 0
FormFits program vars = StatementFitsNode program.types program.procs vars Stmt (λ s. s) (StatementFits program.types program.procs vars)

-- the procedure fits, its store fits its variables and is fresh, and a new cell finds a number
pub record IsReady (program : TypedProgram) (entry : ProcEntry) (s : StoreMap) : Type 0 where
  pub proc : ProcFits program.types program.procs entry
  pub fits : Fits program.types entry.vars s
  pub fresh : IsFresh s
  pub room : s.next + 1 < 4294967295

-- and what is left of it fits
pub record CanTake (program : TypedProgram) (entry : ProcEntry) (s : StoreMap) (left : List Stmt) : Type 0 where
  pub ready : IsReady program entry s
  pub statements : AllByRecursion (StatementFits program.types program.procs entry.vars) left

-- settings to null or false can be executed
pub record CanSet (program : TypedProgram) (vars : List VarEntry) (items : List Item) (s : StoreMap) : Type 0 where
  pub fits : Fits program.types vars s
  pub fresh : IsFresh s
  pub items_fit : ItemsFit program.types vars items
  pub room : s.next < 4294967295

-- the callee is there, and its store has new cells under new numbers: no cell that stayed behind is live in it
pub record CanReturn (program : TypedProgram) (t : StoreMap) (w : Waiting) : Type 0 where
  pub callee : ProcEntry
  pub there : slice_get program.procs w.call.callee ≡ Some callee
  pub later : w.caller.store.next ≤ t.next
  pub apart : (c : CellId) → IsLive t c → IsLive w.caller.store c → ⊥

-- a step can be taken
abbrev pub CanTurn : TypedProgram → State → Type 0
CanTurn program (runs f waiting) = CanTake program f.entry f.store f.left
CanTurn program (exited t []) = Unit {0}
CanTurn program (exited t (w ∷ waiting)) = CanReturn program t w

-- ---- what is said

-- the procedure of this number, of which the whole body is left
pub record IsEntered (program : TypedProgram) (number : ℕ) (a : Activation) : Type 0 where
  pub there : slice_get program.procs number ≡ Some (entry_of a)
  pub body : left_of a.left ≡ (entry_of a).proc.body

-- what an act leads to; one that fails stands at the store before it
abbrev pub ActsAs : List TypeEntry → ℕ → StoreMap → Act → Result StoreMap Halted → Type 0
ActsAs types line s a (Ok t) = Step types s a (Ok t)
ActsAs types line s a (Err halted) = Step types s a (Err halted.cause) × (halted.line ≡ line) × (halted.at ≡ s)

-- what arriving at a cut leads to: without a cause there, to the store with its logic sets restricted to the live cells
abbrev pub ArrivesAs : List TypeEntry → List VarEntry → Cut → StoreMap → Result StoreMap Halted → Type 0
ArrivesAs types vars cut s (Ok t) = AtCut types vars cut s None × (t ≡ restricted s)
ArrivesAs types vars cut s (Err halted) = AtCut types vars cut s (Some halted.cause) × (halted.line ≡ cut.line) × (halted.at ≡ s)

-- settings, and then arriving at a cut
abbrev pub SetsAs : List TypeEntry → List VarEntry → List Item → Cut → StoreMap → Result StoreMap Halted → Type 0
SetsAs types vars items cut s end = (u : StoreMap) × RunsItems types items s (Ok u) × ArrivesAs types vars cut u end

-- where a step leads, or the fault that ends the run
abbrev pub turn_of : List Waiting → Result At Halted → Turn
turn_of waiting (Ok after) = goes (state_of after waiting)
turn_of waiting (Err halted) = fails halted.cause halted.line

-- a statement of this form, which is no `skip`, leads there, before what is left of the procedure
abbrev pub GoesAs : TypedProgram → Activation → StoreMap → Stmt-F Stmt → List Waiting → Turn → Type 0
GoesAs program a s form waiting turn = TakesForm program (entry_of a) waiting s (left_of a.left) (λ other. ⊥) form turn

-- where it fails, it stands at the store of such a form
abbrev pub HaltsAs : TypedProgram → Activation → StoreMap → Stmt-F Stmt → Result At Halted → Type 0
HaltsAs program a s form end = IfErr end (λ halted. FormStops program (entry_of a) s (λ at. ⊥) form halted.at)

-- what is shown is recorded of a step that doesn't fail
abbrev pub ShowsAs : Option (List Event) → Option (List Event) → List Event → Result At Halted → Type 0
ShowsAs before now shown (Ok after) = now ≡ recorded before shown
ShowsAs before now shown (Err halted) = now ≡ before

-- the run has this end here, at this store: the next step fails there, or the first procedure has exited
abbrev pub EndsAs : TypedProgram → State → RunEnd → StoreMap → Type 0
EndsAs program before end.Running at = ⊥
EndsAs program before (end.Fail why line) at = Leads program before (fails why line) × StopsAt program before at
EndsAs program before end.Exit at = before ≡ exited at []

-- a step leads to the next state, and what it shows is recorded; or the run ends here
abbrev pub TurnsAs : TypedProgram → State → List Waiting → Option (List Event) → Option (List Event) → Turned → Type 0
TurnsAs program before waiting old new (turned.Goes after) =
    Leads program before (goes (state_of after waiting)) × (new ≡ recorded old (state_shows program before))
TurnsAs program before waiting old new (turned.Ends end at) = EndsAs program before end at × (waiting ≡ calls_of before) × (new ≡ old)
