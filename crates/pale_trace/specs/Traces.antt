-- What is said of a store that is traced, and the text that is written. (Møller and Schwartzbach, PLDI 2001.)
use Rattle.std.specs.Prelude.{ℕ, List, Result}
use Rattle.store_core.specs.Tables.{TypeEntry, VarEntry}
use Rattle.store_core.specs.Stores.{StoreMap}
use Rattle.routing_walks.specs.declared.fault.WfFault.{WfFault}
use Rattle.routing_walks.specs.WellFormed.{IsWellFormed, IsFirstFault}
use Rattle.store_exec.specs.declared.fault.Fault.{Fault}
use Rattle.store_exec.specs.declared.triple.Triple.{Triple}
use Rattle.store_exec.specs.Failing.{StartHolds, Meets}
use Rattle.store_trace.specs.declared.event.Event.{Event}
use Rattle.store_trace.specs.Tracing.{TracesTriple}
use Rattle.pale_typed.specs.declared.typed.ProcEntry.{ProcEntry}
use Rattle.pale_typed.specs.TypedPrograms.{TypedProgram}
use Rattle.whole_run.specs.States.{Answer}
use Rattle.whole_run.specs.Safety.{MeetsEntry}
use Rattle.whole_trace.specs.Traces.{Stand, TracedRun}
use Rattle.pale_starts.specs.Lines.{not_well_formed_line, start_false_line}
use Rattle.pale_trace.specs.declared.ending.Ending.{Ending}
use Rattle.pale_trace.specs.declared.ending.Ending.TheVariants as ending
use Rattle.pale_trace.specs.Lines.{triple_text, triple_ending, run_text, run_ending}

-- nothing is executed: the store isn't well-formed, or it is, and what has to hold at the start doesn't
pub data IsUnmet (types : List TypeEntry) (vars : List VarEntry) (s : StoreMap) (Holds : Type 0) : Ending → List ℕ → Type 0 where
  not_well_formed : (wrong : WfFault) → IsFirstFault types vars s wrong
      → IsUnmet types vars s Holds (ending.NotWellFormed wrong) (not_well_formed_line types vars wrong)
  start_false : IsWellFormed types vars s → (Holds → ⊥) → IsUnmet types vars s Holds ending.StartFalse start_false_line

-- in a triple of this procedure: nothing is executed; or the store meets the triple, and this is its trace
pub data TripleSays (program : TypedProgram) (t : Triple) (e : ProcEntry) (s : StoreMap) : Ending → List ℕ → Type 0 where
  unmet : (how : Ending) (written : List ℕ) → IsUnmet program.types e.vars s (StartHolds program.types e.vars t.start s) how written
      → TripleSays program t e s how written
  traced : (shown : List Event) (at : StoreMap) (end : Result ℕ Fault) → Meets program.types e.vars t s
      → TracesTriple program.types e.vars t s shown at end → TripleSays program t e s (triple_ending end) (triple_text program t shown at end)

-- in the run of this procedure, for so many steps at most: nothing is executed; or the store meets its entry, and this is the trace of the
-- whole run
pub data RunSays (program : TypedProgram) (number steps : ℕ) (e : ProcEntry) (s : StoreMap) : Ending → List ℕ → Type 0 where
  unmet : (how : Ending) (written : List ℕ) → IsUnmet program.types e.vars s (MeetsEntry program number s) how written
      → RunSays program number steps e s how written
  traced : (shown : List Event) (stand : Stand) (answer : Answer) → MeetsEntry program number s → TracedRun program number s steps shown stand answer
      → RunSays program number steps e s (run_ending answer) (run_text program number shown stand answer)
