-- Where a whole run may stand when no triple fails.
use Rattle.std.proofs.Common.{◌≡◌, ℕ, List, [], ◌∷◌, Some, None, slice_get}
use Rattle.std.specs.List.{AllByRecursion}
use Rattle.store_core.specs.declared.ids.CellId.{CellId}
use Rattle.store_core.specs.Tables.{TypeEntry, VarEntry}
use Rattle.store_core.specs.Stores.{StoreMap, Fits, IsFresh}
use Rattle.routing_walks.specs.Regions.{IsPart}
use Rattle.routing_walks.specs.WellFormed.{IsWellFormed}
use Rattle.store_exec.specs.declared.triple.Start.{Start}
use Rattle.store_exec.specs.Restricted.{restricted}
use Rattle.store_exec.specs.Cuts.{AtCut}
use Rattle.store_exec.specs.Failing.{StartHolds}
use Rattle.store_exec.proofs.KeepLemmas.{IsWell}
use Rattle.pale_typed.specs.declared.typed.ProcEntry.{ProcEntry}
use Rattle.pale_typed.specs.declared.typed.Stmt.{Stmt}
use Rattle.pale_typed.specs.TypedPrograms.{TypedProgram}
use Rattle.pale_typed.specs.Fitting.{CallFits, ProcFits, StatementFits}
use Rattle.hoare_split.specs.Picking.{those, is_awaited, is_left}
use Rattle.hoare_split.specs.Calls.{handed_by}
use Rattle.hoare_split.specs.Flows.{Flow}
use Rattle.hoare_split.specs.Cuts.{plain_cut, call_cut}
use Rattle.hoare_split.specs.Starts.{call_start}
use Rattle.hoare_split.specs.Passages.{Started}
use Rattle.hoare_split.specs.Statements.{block_of}
use Rattle.hoare_split.specs.Triples.{exit_of}
use Rattle.whole_run.specs.States.{Waiting, State, runs, exited, Turn, goes, fails}
use Rattle.whole_run.specs.Handing.{handed_store, rest_store}
use Rattle.whole_run.specs.Leaving.{CameOf, AreBlank}
use Rattle.whole_run.specs.Segments.{flow_left}
use Rattle.whole_run.proofs.SafeFlows.{IsSafe}
use Rattle.whole_run.proofs.Moving.{Moves, IsKept, all_kept_moves, came_moves}

module _ (program : TypedProgram) where
  abbrev types : List TypeEntry
  types = program.types

  abbrev procs : List ProcEntry
  procs = program.procs

  -- from each well-formed store where the start holds, the flow is safe
  abbrev pub SafeFrom : List VarEntry → Start → Flow → Type 0
  SafeFrom vars start flow = (s : StoreMap) → IsWellFormed types vars s → StartHolds types vars start s → IsSafe types vars flow s

  abbrev pub IsGood : List VarEntry → Started → Type 0
  IsGood vars at = SafeFrom vars at.start at.flow

  -- what is left of a procedure fits, and the triples that start in it don't fail
  pub record IsReady (entry : ProcEntry) (left : List Stmt) : Type 0 where
    pub proc : ProcFits types procs entry
    pub statements : AllByRecursion (StatementFits types procs entry.vars) left
    pub starts : AllByRecursion (IsGood entry.vars) ((block_of procs entry.vars left).starts (exit_of entry.vars entry.proc))

  -- the callee, whose store is x, came of this call: s is the store at the call's cut, and the cells are those handed over
  pub record IsCalled (callee : ProcEntry) (x : StoreMap) (w : Waiting) (s : StoreMap) (cells : List CellId) : Type 0 where
    pub line : ℕ
    pub there : slice_get procs w.call.callee ≡ Some callee
    pub call_fits : CallFits types procs w.caller.entry.vars w.call
    pub fits : Fits types w.caller.entry.vars s
    pub none : AtCut types w.caller.entry.vars (call_cut procs w.caller.entry.vars line w.call) s None
    pub awaits : AreBlank s (those (is_awaited w.call) w.caller.entry.vars)
    pub part : IsPart types w.caller.entry.vars (restricted s) (handed_by w.caller.entry.vars w.call.args) cells
    pub rest : w.caller.store ≡ rest_store (restricted s) cells
    pub came : CameOf (restricted s) cells x
    pub kept : AllByRecursion (IsKept (handed_store callee w.call (restricted s) cells) x) callee.proc.logics
    pub ready : IsReady w.caller.entry w.caller.left
    pub safe : SafeFrom w.caller.entry.vars (call_start procs w.caller.entry.vars w.call) (flow_left program w.caller.entry w.caller.left)

  -- the procedure's store came of all the calls that wait
  abbrev pub Stands : ProcEntry → StoreMap → List Waiting → Type 0
  Stands callee x [] = Unit {0}
  Stands callee x (w ∷ waiting) = (s : StoreMap) × (cells : List CellId) × IsCalled callee x w s cells × Stands w.caller.entry (restricted s) waiting

  pub stands_move : (entry : ProcEntry) → ProcFits types procs entry → (waiting : List Waiting) (s t : StoreMap) → IsFresh s → Moves entry.vars s t →
      Stands entry s waiting → Stands entry t waiting
  stands_move entry proc [] s t fresh moves h = tt
  stands_move entry proc (w ∷ waiting) s t fresh moves (at, cells, called, more) = (
    at,
    cells,
    record {
      line = called.line;
      there = called.there;
      call_fits = called.call_fits;
      fits = called.fits;
      none = called.none;
      awaits = called.awaits;
      part = called.part;
      rest = called.rest;
      came = came_moves entry.vars (restricted at) cells s t moves called.came;
      kept = all_kept_moves entry.vars (handed_store entry w.call (restricted at) cells) s t entry.proc.logics moves fresh proc.logic_variables called.kept;
      ready = called.ready;
      safe = called.safe;
    },
    more,
  )

  -- a procedure runs: what is left is safe from its store
  pub record IsRunning (entry : ProcEntry) (waiting : List Waiting) (left : List Stmt) (s : StoreMap) : Type 0 where
    pub ready : IsReady entry left
    pub well : IsWell types entry.vars s
    pub stands : Stands entry s waiting
    pub safe : IsSafe types entry.vars (flow_left program entry left) s

  -- a procedure has exited, where x is the store at its exit's cut
  pub record IsDone (entry : ProcEntry) (waiting : List Waiting) (t x : StoreMap) : Type 0 where
    pub proc : ProcFits types procs entry
    pub is : t ≡ restricted x
    pub fits : Fits types entry.vars x
    pub none : AtCut types entry.vars (plain_cut entry.proc.last entry.proc.post) x None
    pub leaves : AreBlank x (those (is_left entry.proc) entry.vars)
    pub stands : Stands entry x waiting

  abbrev pub Holds : State → Type 0
  Holds (runs f waiting) = IsRunning f.entry waiting f.left f.store
  Holds (exited t waiting) = (entry : ProcEntry) × (x : StoreMap) × IsDone entry waiting t x

  -- the run goes on so
  abbrev pub OnTurn : Turn → Type 0
  OnTurn (goes next) = Holds next
  OnTurn (fails why line) = ⊥
