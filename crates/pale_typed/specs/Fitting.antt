-- When a typed program fits: what all that takes it apart asks of its parts. (Møller and Schwartzbach, PLDI 2001: procedures, calls,
-- invariants.)
use Rattle.std.specs.Prelude.{◌≡◌, ◌≢◌, ◌≤◌, List, ◌++◌, length, map, slice_get}
use Rattle.std.specs.Prelude.{Some, Contains, AllPairs}
use Rattle.std.specs.List.{AllByRecursion, AllZip}
use Rattle.store_core.specs.declared.ids.VarId.{VarId}
use Rattle.store_core.specs.Tables.{TypeEntry, VarEntry, var_names, AreDistinct, IsTypeTable}
use Rattle.store_logic.specs.Fits.{AssertionFits, KnowsVars}
use Rattle.store_logic.specs.FitsCode.{CondFits, ActFits}
use Rattle.pale_typed.specs.declared.typed.CallParts.{CallParts}
use Rattle.pale_typed.specs.declared.typed.ProcEntry.{ProcEntry}
use Rattle.pale_typed.specs.declared.typed.Stmt.{Stmt}
use Rattle.pale_typed.specs.declared.typed.Stmt.TheOpen.{Stmt-F}
use Rattle.pale_typed.specs.declared.typed.Stmt.TheFolds.{rec-Stmt}
use Rattle.pale_typed.specs.TypedPrograms.{TypedProgram}
pub use Rattle.claim_laws.specs.Claims.{NameMayBe, StatedFits, FillingFits}
pub use Rattle.pale_typed.specs.Variables.{numbers, kind_at, IsOfClass, IsLogicVariable, IsProgramVariable, IsLike, ActualFits, cell_in, cells_in}
pub use Rattle.pale_typed.specs.Variables.{KindFits, FieldsFit}

-- ---- calls

-- neither a result, nor a data or pointer variable that is handed over
pub record IsUntouched (vars : List VarEntry) (call : CallParts) (v : VarId) : Type 0 where
  pub no_result : Contains call.results v → ⊥
  pub no_cell : Contains (cells_in vars call.args) v → ⊥

-- the callee is there, with as many results, arguments and logic arguments, each of the class and type of the callee's; no variable is
-- there twice among the results, nor a data or pointer variable among the arguments; and `keep` names what the call doesn't touch
pub record CallFits (types : List TypeEntry) (procs : List ProcEntry) (vars : List VarEntry) (call : CallParts) : Type 0 where
  pub callee : ProcEntry
  pub there : slice_get procs call.callee ≡ Some callee
  pub results : AllZip (IsLike vars callee.vars) call.results callee.proc.results
  pub args : AllZip (ActualFits vars callee.vars) call.args callee.proc.params
  pub logics : AllZip (ActualFits vars callee.vars) call.logics callee.proc.logics
  pub results_once : AllPairs (λ u v. u ≢ v) call.results
  pub cells_once : AllPairs (λ u v. u ≢ v) (cells_in vars call.args)
  pub keep : StatedFits types vars (IsUntouched vars call) call.keep

-- ---- statements

-- one form of statement fits where its parts do
abbrev pub StatementFitsNode : List TypeEntry → List ProcEntry → List VarEntry → (Part : Type 0) → (Part → Stmt) → (Part → Type 0) → Stmt-F Part → Type 0
StatementFitsNode types procs vars Part whole fits Stmt-F.Skip = Unit {0}
StatementFitsNode types procs vars Part whole fits (Stmt-F.Do line a) = ActFits types vars a
StatementFitsNode types procs vars Part whole fits (Stmt-F.If line c first other) =
    CondFits types vars c × AllByRecursion fits first × AllByRecursion fits other
StatementFitsNode types procs vars Part whole fits (Stmt-F.While place c invariant body) =
    CondFits types vars c × AssertionFits types vars invariant × AllByRecursion fits body
StatementFitsNode types procs vars Part whole fits (Stmt-F.Split place a) = AssertionFits types vars a
StatementFitsNode types procs vars Part whole fits (Stmt-F.Call place call) = CallFits types procs vars call

abbrev pub StatementFits : List TypeEntry → List ProcEntry → List VarEntry → Stmt → Type 0
StatementFits types procs vars = rec-Stmt (Type 0) (StatementFitsNode types procs vars)

-- ---- procedures

-- the table has at most 64 variables, each with a name of its own and of a type that is there: the parameters, the results, the
-- locals and the logic variables, in this order. `pre` names parameters and logic variables, `post` results and logic variables
pub record ProcFits (types : List TypeEntry) (procs : List ProcEntry) (e : ProcEntry) : Type 0 where
  pub few : length e.vars ≤ 64
  pub names : AreDistinct (var_names e.vars)
  pub kinds : KnowsVars types e.vars
  pub in_order : e.proc.params ++ e.proc.results ++ e.proc.locals ++ e.proc.logics ≡ numbers 0 e.vars
  pub program_variables : AllByRecursion (IsProgramVariable e.vars) (e.proc.params ++ e.proc.results ++ e.proc.locals)
  pub logic_variables : AllByRecursion (IsLogicVariable e.vars) e.proc.logics
  pub pre : StatedFits types e.vars (Contains (e.proc.params ++ e.proc.logics)) e.proc.pre
  pub post : StatedFits types e.vars (Contains (e.proc.results ++ e.proc.logics)) e.proc.post
  pub body : AllByRecursion (StatementFits types procs e.vars) e.proc.body

-- ---- programs

-- at most 32 types, which are a table, with routes that fit; procedures, each of a name of its own, which fit
pub record ProgramFits (program : TypedProgram) : Type 0 where
  pub few_types : length program.types ≤ 32
  pub types : IsTypeTable program.types
  pub routes : AllByRecursion (λ t. FieldsFit program.types t.fields) program.types
  pub names : AreDistinct (map (λ e. e.proc.name) program.procs)
  pub procs : AllByRecursion (ProcFits program.types program.procs) program.procs
