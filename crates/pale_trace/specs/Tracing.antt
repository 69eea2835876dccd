-- What is said of a text that is traced. The lines of the part after `---` are counted from 1.
use Rattle.std.specs.Prelude.{◌≡◌, ℕ, suc, ◌+◌, List, [], ◌∷◌, None, Ok, Err, slice_get}
use Rattle.store_core.specs.Stores.{StoreMap}
use Rattle.store_exec.specs.declared.triple.Triple.{Triple}
use Rattle.store_text.specs.declared.fault.StoreFault.{StoreFault}
use Rattle.store_text.specs.declared.fault.StoreKind.{StoreKind}
use Rattle.store_text.specs.declared.fault.StoreKind.TheVariants.{Missing, UnknownName}
use Rattle.store_text.specs.Lines.{lines_of}
use Rattle.store_text.specs.Reading.{read_text}
use Rattle.pale_typed.specs.declared.typed.ProcEntry.{ProcEntry}
use Rattle.pale_typed.specs.TypedPrograms.{TypedProgram}
use Rattle.whole_program.specs.ProgramTexts.{IsReadAs}
use Rattle.pale_parts.specs.Parts.{IsCutAs, HasNoCut, IsTripleLine}
use Rattle.pale_starts.specs.Lines.{store_refused_line}
use Rattle.pale_replay.specs.Replaying.{NamesTriple}
use Rattle.pale_run.specs.Running.{NamesRun, NamesNoRun}
use Rattle.pale_trace.specs.declared.ending.Ending.{Ending}
use Rattle.pale_trace.specs.declared.ending.Ending.TheVariants as ending
use Rattle.pale_trace.specs.Traces.{TripleSays, RunSays}

-- ---- the part after `---`

-- the line names a triple of this procedure, or a run of it
pub data AsksIn (program : TypedProgram) (triples : List Triple) (line : List ℕ) (e : ProcEntry) : Type 0 where
  of_triple : (t : Triple) → NamesTriple program triples line t e → AsksIn program triples line e
  of_run : (number steps : ℕ) → NamesRun program line number steps e → AsksIn program triples line e

-- it names neither: it isn't `triple K`, and no run, for this cause; or there is no triple of that number
pub data AsksNothing (program : TypedProgram) (triples : List Triple) (line : List ℕ) : StoreKind → Type 0 where
  no_run : (kind : StoreKind) → ((number : ℕ) → IsTripleLine line number → ⊥) → NamesNoRun program line kind → AsksNothing program triples line kind
  no_triple : (place : ℕ) → IsTripleLine line (suc place) → slice_get triples place ≡ None → AsksNothing program triples line UnknownName

-- the lines are refused at this one of them: there is none; the first names nothing; or the others, which begin at line 2, spell no store
pub data IsRefusedAt (program : TypedProgram) (triples : List Triple) : List (List ℕ) → ℕ → StoreKind → Type 0 where
  nothing : IsRefusedAt program triples [] 1 Missing
  no_request : (first : List ℕ) (lines : List (List ℕ)) (kind : StoreKind) → AsksNothing program triples first kind
      → IsRefusedAt program triples (first ∷ lines) 1 kind
  no_store : (first : List ℕ) (lines : List (List ℕ)) (e : ProcEntry) (fault : StoreFault) → AsksIn program triples first e
      → read_text program.types e.vars lines ≡ Err fault → IsRefusedAt program triples (first ∷ lines) (fault.line + 1) fault.kind

-- what is said of the lines, and the text that is written: they are refused; or they name a triple, or a run, and spell a store, of which
-- this is said
pub data SaysOf (program : TypedProgram) (triples : List Triple) : List (List ℕ) → Ending → List ℕ → Type 0 where
  refused : (lines : List (List ℕ)) (n : ℕ) (kind : StoreKind) → IsRefusedAt program triples lines n kind
      → SaysOf program triples lines (ending.StoreRefused n kind) (store_refused_line n kind)
  triple : (first : List ℕ) (lines : List (List ℕ)) (t : Triple) (e : ProcEntry) (s : StoreMap) (how : Ending) (written : List ℕ)
      → NamesTriple program triples first t e → read_text program.types e.vars lines ≡ Ok s → TripleSays program t e s how written
      → SaysOf program triples (first ∷ lines) how written
  run : (first : List ℕ) (lines : List (List ℕ)) (number steps : ℕ) (e : ProcEntry) (s : StoreMap) (how : Ending) (written : List ℕ)
      → NamesRun program first number steps e → read_text program.types e.vars lines ≡ Ok s → RunSays program number steps e s how written
      → SaysOf program triples (first ∷ lines) how written

-- ---- the whole text

-- what is said of a text whose program's part is a program without a fault, and the text that is written: it has no line `---`, or this
-- is said of what follows it
pub data IsTraceOf (text : List ℕ) : Ending → List ℕ → Type 0 where
  uncut : (program : TypedProgram) (triples : List Triple) → HasNoCut text → IsReadAs text program triples
      → IsTraceOf text (ending.StoreRefused 0 Missing) (store_refused_line 0 Missing)
  cut : (part after : List ℕ) (program : TypedProgram) (triples : List Triple) (how : Ending) (written : List ℕ) → IsCutAs text part after
      → IsReadAs part program triples → SaysOf program triples (lines_of after) how written → IsTraceOf text how written
