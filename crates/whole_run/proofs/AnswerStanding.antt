-- Where a whole run may stand: the procedures that run or wait fit, and so do their stores, which came of the calls that wait.
use Rattle.std.proofs.Common.{◌≡◌, ◌≤◌, ℕ, List, [], ◌∷◌, Some, None, slice_get}
use Rattle.std.specs.List.{AllByRecursion}
use Rattle.store_core.specs.declared.ids.CellId.{CellId}
use Rattle.store_core.specs.Tables.{TypeEntry}
use Rattle.store_core.specs.Stores.{StoreMap, Fits}
use Rattle.routing_walks.specs.Regions.{IsPart}
use Rattle.store_exec.specs.Restricted.{restricted}
use Rattle.store_exec.specs.Cuts.{AtCut}
use Rattle.store_exec.proofs.KeepLemmas.{IsWell}
use Rattle.pale_typed.specs.declared.typed.ProcEntry.{ProcEntry}
use Rattle.pale_typed.specs.declared.typed.Stmt.{Stmt}
use Rattle.pale_typed.specs.TypedPrograms.{TypedProgram}
use Rattle.pale_typed.specs.Fitting.{CallFits, ProcFits, StatementFits}
use Rattle.hoare_split.specs.Picking.{those, is_awaited, is_left}
use Rattle.hoare_split.specs.Calls.{handed_by}
use Rattle.hoare_split.specs.Cuts.{plain_cut, call_cut}
use Rattle.whole_run.specs.States.{Waiting, State, runs, exited, Turn, goes, fails}
use Rattle.whole_run.specs.Handing.{rest_store}
use Rattle.whole_run.specs.Leaving.{CameOf, AreBlank}
use Rattle.whole_run.proofs.Moving.{Moves, came_moves}

module _ (program : TypedProgram) where
  abbrev types : List TypeEntry
  types = program.types

  abbrev procs : List ProcEntry
  procs = program.procs

  -- a procedure, and what is left of it, fit
  pub record IsFitting (entry : ProcEntry) (left : List Stmt) : Type 0 where
    pub proc : ProcFits types procs entry
    pub statements : AllByRecursion (StatementFits types procs entry.vars) left

  -- the callee, whose store is x, came of this call: s is the store at the call's cut, and the cells are those handed over
  pub record IsCalled (callee : ProcEntry) (x : StoreMap) (w : Waiting) (s : StoreMap) (cells : List CellId) : Type 0 where
    pub line : ℕ
    pub there : slice_get procs w.call.callee ≡ Some callee
    pub call_fits : CallFits types procs w.caller.entry.vars w.call
    pub fits : Fits types w.caller.entry.vars s
    pub none : AtCut types w.caller.entry.vars (call_cut procs w.caller.entry.vars line w.call) s None
    pub awaits : AreBlank s (those (is_awaited w.call) w.caller.entry.vars)
    pub part : IsPart types w.caller.entry.vars (restricted s) (handed_by w.caller.entry.vars w.call.args) cells
    pub rest : w.caller.store ≡ rest_store (restricted s) cells
    pub came : CameOf (restricted s) cells x
    pub fitting : IsFitting w.caller.entry w.caller.left

  -- the procedure's store came of all the calls that wait
  abbrev pub Stands : ProcEntry → StoreMap → List Waiting → Type 0
  Stands callee x [] = Unit {0}
  Stands callee x (w ∷ waiting) = (s : StoreMap) × (cells : List CellId) × IsCalled callee x w s cells × Stands w.caller.entry (restricted s) waiting

  pub stands_move : (entry : ProcEntry) (waiting : List Waiting) (s t : StoreMap) → Moves entry.vars s t → Stands entry s waiting → Stands entry t waiting
  stands_move entry [] s t moves h = tt
  stands_move entry (w ∷ waiting) s t moves (at_cut, cells, called, more) = (
    at_cut,
    cells,
    record {
      line = called.line;
      there = called.there;
      call_fits = called.call_fits;
      fits = called.fits;
      none = called.none;
      awaits = called.awaits;
      part = called.part;
      rest = called.rest;
      came = came_moves entry.vars (restricted at_cut) cells s t moves called.came;
      fitting = called.fitting;
    },
    more,
  )

  -- a procedure runs
  pub record IsRunning (entry : ProcEntry) (waiting : List Waiting) (left : List Stmt) (s : StoreMap) : Type 0 where
    pub fitting : IsFitting entry left
    pub well : IsWell types entry.vars s
    pub stands : Stands entry s waiting

  -- a procedure has exited, where x is the store at its exit's cut
  pub record IsDone (entry : ProcEntry) (waiting : List Waiting) (t x : StoreMap) : Type 0 where
    pub proc : ProcFits types procs entry
    pub is : t ≡ restricted x
    pub fits : Fits types entry.vars x
    pub none : AtCut types entry.vars (plain_cut entry.proc.last entry.proc.post) x None
    pub leaves : AreBlank x (those (is_left entry.proc) entry.vars)
    pub stands : Stands entry x waiting

  abbrev pub Holds : State → Type 0
  Holds (runs f waiting) = IsRunning f.entry waiting f.left f.store
  Holds (exited t waiting) = (entry : ProcEntry) × (x : StoreMap) × IsDone entry waiting t x

-- the next number where a run stands
abbrev pub next_of : State → ℕ
next_of (runs f waiting) = f.store.next
next_of (exited t waiting) = t.next

-- a run that goes on stands so, and its next number is no greater
abbrev pub OnTurn : TypedProgram → ℕ → Turn → Type 0
OnTurn program most (goes next) = Holds program next × (next_of next ≤ most)
OnTurn program most (fails why line) = Unit {0}
