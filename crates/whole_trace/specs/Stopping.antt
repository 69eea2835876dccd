-- At which store the next step of a whole run stands where it fails.
use Rattle.std.specs.Prelude.{◌≡◌, List, [], ◌∷◌, Ok}
use Rattle.store_core.specs.Stores.{StoreMap}
use Rattle.store_exec.specs.Runs.{RunsItems}
use Rattle.pale_typed.specs.declared.typed.ProcEntry.{ProcEntry}
use Rattle.pale_typed.specs.declared.typed.Stmt.{Stmt, out-Stmt}
use Rattle.pale_typed.specs.declared.typed.Stmt.TheOpen.{Stmt-F}
use Rattle.pale_typed.specs.TypedPrograms.{TypedProgram}
use Rattle.hoare_split.specs.Picking.{is_awaited, is_left}
use Rattle.hoare_split.specs.Settings.{settings}
use Rattle.whole_run.specs.States.{State, runs, exited}

-- by the form of the next statement: an act or a condition stops at the store before it, and a cut at the store that arrives there, which
-- at a call is the one after the settings
abbrev pub FormStops : TypedProgram → ProcEntry → StoreMap → (StoreMap → Type 0) → Stmt-F Stmt → StoreMap → Type 0
FormStops program entry s Later Stmt-F.Skip at = Later at
FormStops program entry s Later (Stmt-F.Do line a) at = at ≡ s
FormStops program entry s Later (Stmt-F.If line c first other) at = at ≡ s
FormStops program entry s Later (Stmt-F.While place c invariant body) at = at ≡ s
FormStops program entry s Later (Stmt-F.Split place a) at = at ≡ s
FormStops program entry s Later (Stmt-F.Call place call) at =
    RunsItems program.types (settings entry.vars (is_awaited call) place.line) s (Ok at)

-- by the statements that are left: the exit's cut is arrived at after its settings
abbrev pub LeftStops : TypedProgram → ProcEntry → StoreMap → List Stmt → StoreMap → Type 0
LeftStops program entry s [] at = RunsItems program.types (settings entry.vars (is_left entry.proc) entry.proc.last) s (Ok at)
LeftStops program entry s (next ∷ left) at = FormStops program entry s (LeftStops program entry s left) (out-Stmt next) at

-- the next step of a run; a return never fails
abbrev pub StopsAt : TypedProgram → State → StoreMap → Type 0
StopsAt program (runs f waiting) at = LeftStops program f.entry f.store f.left at
StopsAt program (exited t waiting) at = ⊥
