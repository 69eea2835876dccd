-- A whole run between two cuts.
use Rattle.std.specs.Prelude.{◌≡◌, ◌⊎◌, ℕ, List, Some, None}
use Rattle.store_core.specs.Tables.{TypeEntry, VarEntry}
use Rattle.store_core.specs.Stores.{StoreMap}
use Rattle.store_exec.specs.declared.cause.Cause.{Cause}
use Rattle.store_exec.specs.declared.triple.Cut.{Cut}
use Rattle.store_exec.specs.Cuts.{AtCut}
use Rattle.pale_typed.specs.declared.typed.ProcEntry.{ProcEntry}
use Rattle.pale_typed.specs.declared.typed.Stmt.{Stmt}
use Rattle.pale_typed.specs.TypedPrograms.{TypedProgram}
use Rattle.hoare_split.specs.Flows.{Flow}
use Rattle.hoare_split.specs.Statements.{block_of}
use Rattle.hoare_split.specs.Triples.{exit_of}
use Rattle.whole_run.specs.States.{State, Turn, goes, fails}
use Rattle.whole_run.specs.FlowRuns.{Leading, arrives, stops}

-- where the statements that are left lead, up to the next cuts
abbrev pub flow_left : TypedProgram → ProcEntry → List Stmt → Flow
flow_left program entry left = (block_of program.procs entry.vars left).flow (exit_of entry.vars entry.proc)

-- the cut is passed where it has no cause, and else the run fails with its first cause at its line
abbrev pub Passes : List TypeEntry → List VarEntry → StoreMap → Cut → Turn → Type 0
Passes types vars s cut turn =
    (AtCut types vars cut s None × ((next : State) × (turn ≡ goes next)))
    ⊎ ((why : Cause) × AtCut types vars cut s (Some why) × (turn ≡ fails why cut.line))

-- the step where the flow's lead ends: it arrives at the cut with its store, or fails with its cause at its line
abbrev pub EndsLead : List TypeEntry → List VarEntry → Leading → Turn → Type 0
EndsLead types vars (arrives a s) turn = Passes types vars s a.cut turn
EndsLead types vars (stops why line) turn = turn ≡ fails why line
