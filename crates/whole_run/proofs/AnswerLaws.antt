-- The laws of other crates that are used, as their contracts have them.
use Rattle.std.proofs.Common.{◌≡◌, ℕ, List, Some, None, slice_get}
use Rattle.store_core.specs.declared.ids.CellId.{CellId}
use Rattle.store_core.specs.Tables.{VarEntry}
use Rattle.store_core.specs.Stores.{StoreMap, Fits}
use Rattle.routing_walks.specs.Regions.{IsPart}
use Rattle.routing_walks.specs.WellFormed.{IsWellFormed}
use Rattle.store_exec.specs.Restricted.{restricted}
use Rattle.store_exec.specs.Cuts.{AreMet, AtCut}
use Rattle.store_exec.specs.Failing.{StartHolds}
use Rattle.pale_typed.specs.declared.typed.CallParts.{CallParts}
use Rattle.pale_typed.specs.declared.typed.ProcEntry.{ProcEntry}
use Rattle.pale_typed.specs.TypedPrograms.{TypedProgram}
use Rattle.pale_typed.specs.Fitting.{CallFits, ProgramFits}
use Rattle.hoare_split.specs.Picking.{those, is_awaited, is_left}
use Rattle.hoare_split.specs.Calls.{handed_by}
use Rattle.hoare_split.specs.Cuts.{plain_cut, call_cut}
use Rattle.hoare_split.specs.Starts.{entry_start}
use Rattle.hoare_split.proofs.FittingClaimLemmas.{PutsFit}
use Rattle.whole_run.specs.Handing.{handed_store, rest_store, returned_store}
use Rattle.whole_run.specs.Leaving.{CameOf, AreBlank}

pub record Laws : Type 0 where
  pub puts : PutsFit
  pub handed : (program : TypedProgram) (vars : List VarEntry) (callee : ProcEntry) (call : CallParts) (line : ℕ) (s : StoreMap) (cells : List CellId) →
      ProgramFits program → CallFits program.types program.procs vars call → slice_get program.procs call.callee ≡ Some callee →
      Fits program.types vars s → AtCut program.types vars (call_cut program.procs vars line call) s None →
      IsPart program.types vars (restricted s) (handed_by vars call.args) cells →
      IsWellFormed program.types callee.vars (handed_store callee call (restricted s) cells)
      × (AreMet program.types vars s (call_cut program.procs vars line call).asserts →
      StartHolds program.types callee.vars (entry_start callee.vars callee.proc) (handed_store callee call (restricted s) cells))
  pub formed : (program : TypedProgram) (vars : List VarEntry) (callee : ProcEntry) (call : CallParts) (line : ℕ) (s x : StoreMap) (cells : List CellId) →
      ProgramFits program → CallFits program.types program.procs vars call → slice_get program.procs call.callee ≡ Some callee →
      Fits program.types vars s → AtCut program.types vars (call_cut program.procs vars line call) s None → AreBlank s (those (is_awaited call) vars) →
      IsPart program.types vars (restricted s) (handed_by vars call.args) cells →
      Fits program.types callee.vars x → AtCut program.types callee.vars (plain_cut callee.proc.last callee.proc.post) x None →
      AreBlank x (those (is_left callee.proc) callee.vars) → CameOf (restricted s) cells (restricted x) →
      IsWellFormed program.types vars
      (returned_store vars call callee.proc.results (rest_store (restricted s) cells) (restricted x))
