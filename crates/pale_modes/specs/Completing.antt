-- Texts without a fault, of which something is said whatever their size: in the modes `replay`, `run` and `trace` of the store that they
-- spell, and in the mode `ws2s` where their Peak is within the limit.
use Rattle.std.specs.Prelude.{◌≡◌, ℕ, List, ◌∷◌, Ok}
use Rattle.store_core.specs.Tables.{TypeEntry, VarEntry}
use Rattle.store_core.specs.Stores.{StoreMap}
use Rattle.store_exec.specs.declared.triple.Triple.{Triple}
use Rattle.store_text.specs.Lines.{lines_of}
use Rattle.store_text.specs.Reading.{read_text}
use Rattle.pale_typed.specs.declared.typed.ProcEntry.{ProcEntry}
use Rattle.pale_typed.specs.TypedPrograms.{TypedProgram}
use Rattle.whole_program.specs.ProgramTexts as programs
use Rattle.pale_replay.specs.declared.answer.Answer.{Answer}
use Rattle.pale_parts.specs.Parts.{IsCutAs}
use Rattle.pale_replay.specs.Replaying.{NamesTriple}
use Rattle.pale_replay.specs.Replays.{Replays}
use Rattle.pale_replay.specs.Lines.{line_of}
use Rattle.pale_run.specs.declared.answer.Answer as run
use Rattle.pale_run.specs.Running.{NamesRun}
use Rattle.pale_run.specs.Runs.{RunsFrom}
use Rattle.pale_run.specs.Lines.{text_of}
use Rattle.pale_trace.specs.declared.ending.Ending.{Ending}
use Rattle.pale_trace.specs.Traces.{TripleSays, RunSays}
use Rattle.ws2s_syntax.specs.Checked as checked
use Rattle.ws2s_read.specs.TextReading.{IsReadAs}
use Rattle.ws2s_answer.specs.Within.{IsPeakWithin}
use Rattle.pale_status.specs.declared.status.Status.{Status}
use Rattle.pale_modes.specs.Deciding.{HasSmallFormulas}
use Rattle.pale_modes.specs.Replaying.{status_of}
use Rattle.pale_modes.specs.Running as running
use Rattle.pale_modes.specs.Tracing as tracing

-- the text is that of a program without a fault, a line `---`, a line that names this triple of this procedure, and the text of
-- this store
pub record SpellsStore (text : List ℕ) (program : TypedProgram) (t : Triple) (e : ProcEntry) (s : StoreMap) : Type 0 where
  pub part : List ℕ
  pub after : List ℕ
  pub cut : IsCutAs text part after
  pub triples : List Triple
  pub read : programs.IsReadAs part program triples
  pub first : List ℕ
  pub lines : List (List ℕ)
  pub begins : lines_of after ≡ first ∷ lines
  pub named : NamesTriple program triples first t e
  pub store : read_text program.types e.vars lines ≡ Ok s

-- the line and the status are those of what comes of the store in the triple
pub record TellsStore (types : List TypeEntry) (vars : List VarEntry) (t : Triple) (s : StoreMap) (line : List ℕ) (status : Status) : Type 0 where
  pub answer : Answer
  pub comes : Replays types vars t s answer
  pub told : line ≡ line_of types vars answer
  pub ends : status ≡ status_of answer

-- the text is that of a program without a fault, a line `---`, a line that names this procedure, which has this number, and so many
-- steps, and the text of this store
pub record SpellsRun (text : List ℕ) (program : TypedProgram) (number steps : ℕ) (e : ProcEntry) (s : StoreMap) : Type 0 where
  pub part : List ℕ
  pub after : List ℕ
  pub cut : IsCutAs text part after
  pub triples : List Triple
  pub read : programs.IsReadAs part program triples
  pub first : List ℕ
  pub lines : List (List ℕ)
  pub begins : lines_of after ≡ first ∷ lines
  pub named : NamesRun program first number steps e
  pub store : read_text program.types e.vars lines ≡ Ok s

-- the text that is written and the status are those of what comes of the store in the procedure's run
pub record TellsRun (program : TypedProgram) (number steps : ℕ) (e : ProcEntry) (s : StoreMap) (written : List ℕ) (status : Status) : Type 0 where
  pub answer : run.Answer
  pub comes : RunsFrom program number steps e s answer
  pub told : written ≡ text_of program.types e.vars answer
  pub ends : status ≡ running.status_of answer

-- the text that is written and the status are those of a trace of the store, in the triple or in the procedure's run
pub record TellsTrace (Says : Ending → List ℕ → Type 0) (written : List ℕ) (status : Status) : Type 0 where
  pub how : Ending
  pub says : Says how written
  pub ends : status ≡ tracing.status_of how

abbrev pub TellsTriple : TypedProgram → Triple → ProcEntry → StoreMap → List ℕ → Status → Type 0
TellsTriple program t e s = TellsTrace (TripleSays program t e s)

abbrev pub TellsRunTrace : TypedProgram → ℕ → ℕ → ProcEntry → StoreMap → List ℕ → Status → Type 0
TellsRunTrace program number steps e s = TellsTrace (RunSays program number steps e s)

-- the text is that of this tree, both of whose formulas are small enough to be decided, and whose Peak isn't above the limit
pub record IsWithinPeak (limit : ℕ) (text : List ℕ) (tree : checked.Text) : Type 0 where
  pub read : IsReadAs text tree
  pub small : HasSmallFormulas tree
  pub within : IsPeakWithin limit tree
