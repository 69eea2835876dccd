-- What is said of a text that is run. The lines of the part after `---` are counted from 1.
use Rattle.std.specs.Prelude.{◌≡◌, ℕ, ◌+◌, List, [], ◌∷◌, Option, Some, None, Ok, Err, slice_get, position}
use Rattle.std.specs.Str.{bytes_eq}
use Rattle.store_core.specs.Stores.{StoreMap}
use Rattle.store_exec.specs.declared.triple.Triple.{Triple}
use Rattle.store_text.specs.declared.fault.StoreFault.{StoreFault}
use Rattle.store_text.specs.declared.fault.StoreKind.{StoreKind}
use Rattle.store_text.specs.declared.fault.StoreKind.TheVariants.{Missing, Syntax, UnknownName}
use Rattle.store_text.specs.Lines.{lines_of}
use Rattle.store_text.specs.Reading.{read_text}
use Rattle.pale_typed.specs.declared.typed.ProcEntry.{ProcEntry}
use Rattle.pale_typed.specs.TypedPrograms.{TypedProgram}
use Rattle.whole_program.specs.ProgramTexts.{IsReadAs}
use Rattle.pale_parts.specs.Parts.{IsCutAs, HasNoCut, IsRunLine}
use Rattle.pale_starts.specs.Lines.{store_refused_line}
use Rattle.pale_run.specs.declared.answer.Answer.{Answer}
use Rattle.pale_run.specs.declared.answer.Answer.TheVariants.{StoreRefused}
use Rattle.pale_run.specs.Lines.{text_of}
use Rattle.pale_run.specs.Runs.{RunsFrom}

-- ---- the line that asks for a run

-- the number of the procedure of this name, counted from 0; no two procedures of a program have one name
abbrev pub proc_named : List ProcEntry → List ℕ → Option ℕ
proc_named procs name = position (λ (e : ProcEntry). bytes_eq e.proc.name name) procs

-- the line names this procedure, which has this number, and so many steps
pub record NamesRun (program : TypedProgram) (line : List ℕ) (number steps : ℕ) (e : ProcEntry) : Type 0 where
  pub name : List ℕ
  pub spelled : IsRunLine line name steps
  pub named : proc_named program.procs name ≡ Some number
  pub entry : slice_get program.procs number ≡ Some e

-- it has another form, or names a procedure that isn't there
pub data NamesNoRun (program : TypedProgram) (line : List ℕ) : StoreKind → Type 0 where
  no_form : ((name : List ℕ) (steps : ℕ) → IsRunLine line name steps → ⊥) → NamesNoRun program line Syntax
  no_procedure : (name : List ℕ) (steps : ℕ) → IsRunLine line name steps → proc_named program.procs name ≡ None → NamesNoRun program line UnknownName

-- ---- the part after `---`

-- the lines are refused at this one of them: there is none; the first names no run; or the others, which begin at line 2, spell no store
pub data IsRefusedAt (program : TypedProgram) : List (List ℕ) → ℕ → StoreKind → Type 0 where
  nothing : IsRefusedAt program [] 1 Missing
  no_run : (first : List ℕ) (lines : List (List ℕ)) (kind : StoreKind) → NamesNoRun program first kind → IsRefusedAt program (first ∷ lines) 1 kind
  no_store : (first : List ℕ) (lines : List (List ℕ)) (number steps : ℕ) (e : ProcEntry) (fault : StoreFault)
      → NamesRun program first number steps e → read_text program.types e.vars lines ≡ Err fault
      → IsRefusedAt program (first ∷ lines) (fault.line + 1) fault.kind

-- what is said of the lines, and the text that is written: they are refused; or they name a run and spell a store, of which this is said
pub data SaysOf (program : TypedProgram) : List (List ℕ) → Answer → List ℕ → Type 0 where
  refused : (lines : List (List ℕ)) (n : ℕ) (kind : StoreKind) → IsRefusedAt program lines n kind
      → SaysOf program lines (StoreRefused n kind) (store_refused_line n kind)
  store : (first : List ℕ) (lines : List (List ℕ)) (number steps : ℕ) (e : ProcEntry) (s : StoreMap) (a : Answer)
      → NamesRun program first number steps e → read_text program.types e.vars lines ≡ Ok s → RunsFrom program number steps e s a
      → SaysOf program (first ∷ lines) a (text_of program.types e.vars a)

-- ---- the whole text

-- what is said of a text whose program's part is a program without a fault, and the text that is written: it has no line `---`, or this
-- is said of what follows it
pub data IsRunOf (text : List ℕ) : Answer → List ℕ → Type 0 where
  uncut : (program : TypedProgram) (triples : List Triple) → HasNoCut text → IsReadAs text program triples
      → IsRunOf text (StoreRefused 0 Missing) (store_refused_line 0 Missing)
  cut : (part after : List ℕ) (program : TypedProgram) (triples : List Triple) (a : Answer) (written : List ℕ) → IsCutAs text part after
      → IsReadAs part program triples → SaysOf program (lines_of after) a written → IsRunOf text a written
