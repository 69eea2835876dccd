-- What is said of a text that is replayed. The lines of the part after `---` are counted from 1.
use Rattle.std.specs.Prelude.{◌≡◌, ℕ, suc, ◌+◌, List, [], ◌∷◌, Some, None, Ok, Err, slice_get}
use Rattle.store_core.specs.Stores.{StoreMap}
use Rattle.store_exec.specs.declared.triple.Triple.{Triple}
use Rattle.store_text.specs.declared.fault.StoreFault.{StoreFault}
use Rattle.store_text.specs.declared.fault.StoreKind.{StoreKind}
use Rattle.store_text.specs.declared.fault.StoreKind.TheVariants.{Missing, Syntax, UnknownName}
use Rattle.store_text.specs.Lines.{lines_of}
use Rattle.store_text.specs.Reading.{read_text}
use Rattle.pale_typed.specs.declared.typed.ProcEntry.{ProcEntry}
use Rattle.pale_typed.specs.TypedPrograms.{TypedProgram}
use Rattle.whole_program.specs.ProgramTexts.{IsReadAs}
use Rattle.pale_replay.specs.declared.answer.Answer.{Answer}
use Rattle.pale_replay.specs.declared.answer.Answer.TheVariants.{StoreRefused}
use Rattle.pale_parts.specs.Parts.{IsCutAs, HasNoCut, IsTripleLine}
use Rattle.pale_starts.specs.Lines.{store_refused_line}
use Rattle.pale_replay.specs.Lines.{line_of}
use Rattle.pale_replay.specs.Replays.{Replays}

-- ---- the part after `---`

-- the line names this triple, which is of this procedure; triples are counted from 1
pub record NamesTriple (program : TypedProgram) (triples : List Triple) (line : List ℕ) (t : Triple) (e : ProcEntry) : Type 0 where
  pub place : ℕ
  pub number : IsTripleLine line (suc place)
  pub there : slice_get triples place ≡ Some t
  pub entry : slice_get program.procs t.proc ≡ Some e

-- the lines are refused at this one of them: there is none; the first isn't `triple K`; there is no triple of that number; or the
-- others, which begin at line 2, spell no store
pub data IsRefusedAt (program : TypedProgram) (triples : List Triple) : List (List ℕ) → ℕ → StoreKind → Type 0 where
  nothing : IsRefusedAt program triples [] 1 Missing
  no_triple_line : (first : List ℕ) (lines : List (List ℕ)) → ((number : ℕ) → IsTripleLine first number → ⊥)
      → IsRefusedAt program triples (first ∷ lines) 1 Syntax
  no_triple : (first : List ℕ) (lines : List (List ℕ)) (place : ℕ) → IsTripleLine first (suc place) → slice_get triples place ≡ None
      → IsRefusedAt program triples (first ∷ lines) 1 UnknownName
  no_store : (first : List ℕ) (lines : List (List ℕ)) (t : Triple) (e : ProcEntry) (fault : StoreFault) → NamesTriple program triples first t e
      → read_text program.types e.vars lines ≡ Err fault → IsRefusedAt program triples (first ∷ lines) (fault.line + 1) fault.kind

-- what is said of the lines, and the line that is written: they are refused; or they name a triple and spell a store, of which this is
-- said
pub data SaysOf (program : TypedProgram) (triples : List Triple) : List (List ℕ) → Answer → List ℕ → Type 0 where
  refused : (lines : List (List ℕ)) (n : ℕ) (kind : StoreKind) → IsRefusedAt program triples lines n kind
      → SaysOf program triples lines (StoreRefused n kind) (store_refused_line n kind)
  store : (first : List ℕ) (lines : List (List ℕ)) (t : Triple) (e : ProcEntry) (s : StoreMap) (a : Answer) → NamesTriple program triples first t e
      → read_text program.types e.vars lines ≡ Ok s → Replays program.types e.vars t s a
      → SaysOf program triples (first ∷ lines) a (line_of program.types e.vars a)

-- ---- the whole text

-- what is said of a text whose program's part is a program without a fault, and the line that is written: it has no line `---`, or
-- this is said of what follows it
pub data IsReplayOf (text : List ℕ) : Answer → List ℕ → Type 0 where
  uncut : (program : TypedProgram) (triples : List Triple) → HasNoCut text → IsReadAs text program triples
      → IsReplayOf text (StoreRefused 0 Missing) (store_refused_line 0 Missing)
  cut : (part after : List ℕ) (program : TypedProgram) (triples : List Triple) (a : Answer) (line : List ℕ) → IsCutAs text part after
      → IsReadAs part program triples → SaysOf program triples (lines_of after) a line → IsReplayOf text a line
