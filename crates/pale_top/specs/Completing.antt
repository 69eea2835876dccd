-- What a text without a fault gets, whatever its size: in `check` a verdict on each field and on each triple whose own Peak is within
-- the limit, in `judge` the same for what is asked for, in `meet` on each field and start, in `ws2s` an answer
-- where its Peak is, and in `replay`, `run`, `trace` and `format` an answer always.
use Rattle.std.specs.Prelude.{◌≡◌, ◌⊎◌, ◌++◌, ℕ, suc, true, false, List, [], length, slice_get, Some, Option}
use Rattle.std.specs.List.{list_all}
use Rattle.store_core.specs.Stores.{StoreMap}
use Rattle.store_exec.specs.declared.triple.Triple.{Triple}
use Rattle.pale_syntax.specs.declared.tree.declaration.Program.{Program}
use Rattle.pale_print.specs.Spelling.{spelling}
use Rattle.pale_typed.specs.declared.typed.ProcEntry.{ProcEntry}
use Rattle.pale_typed.specs.TypedPrograms.{TypedProgram}
use Rattle.whole_program.specs.ProgramTexts.{IsReadAs, IsTextOf}
use Rattle.ws2s_syntax.specs.Checked as checked
use Rattle.store_text.specs.Lines.{lines_of}
use Rattle.witness_store.specs.Alike.{AreFunctional}
use Rattle.pale_parts.specs.Parts.{IsCutAs}
use Rattle.pale_parts.specs.declared.request.Request.{Request}
use Rattle.pale_parts.specs.declared.request.Request.TheVariants as request
use Rattle.pale_parts.specs.Requests.{IsRequest}
use Rattle.pale_io.specs.Whole.{WritesAll}
use Rattle.pale_words.specs.declared.words.Mode.TheVariants.{Check, Replay, Format, Ws2s, Judge, Meet, Run, Trace}
use Rattle.pale_words.specs.declared.words.Settings.{Settings}
use Rattle.pale_status.specs.declared.status.Status.{Status}
use Rattle.pale_status.specs.declared.status.Status.TheVariants.{Good}
use Rattle.pale_modes.specs.Completing.{SpellsStore, TellsStore, SpellsRun, TellsRun, TellsTriple, TellsRunTrace, IsWithinPeak}
use Rattle.pale_modes.specs.Deciding.{Says}
use Rattle.pale_status.specs.Written.{Wrote}
use Rattle.program_judge.specs.declared.ways.FieldWay.{FieldWay}
use Rattle.program_judge.specs.declared.ways.TripleWay.{TripleWay}
use Rattle.program_judge.specs.declared.ways.TripleWay.TheVariants as tripled
use Rattle.program_judge.specs.declared.ways.Ending.{Ending}
use Rattle.program_judge.specs.Lines.{stopped_line}
use Rattle.program_judge.specs.Reports.{is_functional, stopped_ending, judged_ending, ReportsTriple}
use Rattle.program_promises.specs.Completeness.{IsTripleWithin}
use Rattle.program_promises.specs.Telling.{TellsFields, TellsTriples, TellsProgram}
use Rattle.pale_judging.specs.Checking.{status_of}
use Rattle.pale_judging.specs.Generating.{gen_line}
use Rattle.program_judge.specs.declared.meet_way.MeetWay.{MeetWay}
use Rattle.program_judge.specs.Meets.{ReportsMeets, AreStartsDecided, totals_of}
use Rattle.pale_judging.specs.Judging.{status_of_way}
use Rattle.pale_judging.specs.Meeting.{meet_status}

-- a report of the program in which each field and each triple within its own Peak has a verdict, and the status by how it ends
pub record ChecksEach (limit : ℕ) (program : TypedProgram) (triples : List Triple) (output : List ℕ) (status : Status) : Type 0 where
  pub how : Ending
  pub tells : TellsProgram limit program triples output how
  pub ends : status ≡ status_of how

-- the text is that of a program with these triples, a line `---`, and one line that asks for this
pub record SpellsRequest (text : List ℕ) (program : TypedProgram) (triples : List Triple) (r : Request) : Type 0 where
  pub part : List ℕ
  pub after : List ℕ
  pub cut : IsCutAs text part after
  pub read : IsReadAs part program triples
  pub asked : IsRequest (length triples) (lines_of after) r

-- what `judge` writes for a request, and the status, where each field within its own Peak is told to be functional or ambiguous, and the
-- triple to be valid or invalid if it is within its own
pub data JudgesEach (limit : ℕ) (program : TypedProgram) (triples : List Triple) : Request → List ℕ → Status → Type 0 where
  some_field : (r : Request) (lines : List ℕ) (ways : List FieldWay) → TellsFields limit program.types lines ways → list_all is_functional ways ≡ false
      → JudgesEach limit program triples r (lines ++ stopped_line) (status_of (stopped_ending ways))
  each_field : AreFunctional program.types → JudgesEach limit program triples request.Fields [] Good
  one_triple : (place : ℕ) (t : Triple) (lines : List ℕ) (how : TripleWay) → AreFunctional program.types → slice_get triples place ≡ Some t
      → ReportsTriple limit program (suc place) t lines how → (IsTripleWithin limit program t → (how ≡ tripled.Valid) ⊎ (how ≡ tripled.Invalid))
      → JudgesEach limit program triples (request.Triple (suc place)) lines (status_of_way how)

-- what `meet` writes of a program, and the status, where each field within its own Peak is told to be functional or ambiguous, and each
-- triple whose start is within its own to be met, or met by no store
pub data MeetsEach (limit : ℕ) (program : TypedProgram) (triples : List Triple) : List ℕ → Status → Type 0 where
  some_field : (lines : List ℕ) (ways : List FieldWay) → TellsFields limit program.types lines ways → list_all is_functional ways ≡ false
      → MeetsEach limit program triples (lines ++ stopped_line) (status_of (stopped_ending ways))
  each_start : (lines : List ℕ) (ways : List MeetWay) → AreFunctional program.types → ReportsMeets limit program 1 triples lines ways
      → AreStartsDecided limit program triples ways
      → MeetsEach limit program triples (lines ++ totals_of ways) (meet_status ways)

-- by what the sink told before and after, and by the status, the call has written for the text, by the mode:
pub record Completes (settings : Settings) (text : List ℕ) (before after : Option (List ℕ)) (status : Status) : Type 0 where
  -- of the program that it is read as, such a report
  pub check : settings.mode ≡ Check → (program : TypedProgram) (triples : List Triple) → IsReadAs text program triples →
      Wrote (ChecksEach settings.limit program triples) before after status
  -- of the tree that it is read as, within the Peak, one of the answers other than `limit`
  pub ws2s : settings.mode ≡ Ws2s → (tree : checked.Text) → IsWithinPeak settings.limit text tree →
      Wrote (Says settings.limit tree) before after status × (status ≡ Good)
  -- of the store that it spells in a triple of its program, what comes of it
  pub replay : settings.mode ≡ Replay → (program : TypedProgram) (t : Triple) (e : ProcEntry) (s : StoreMap) → SpellsStore text program t e s →
      Wrote (TellsStore program.types e.vars t s) before after status
  -- of the store that it spells in the run of a procedure of its program, what comes of it
  pub run : settings.mode ≡ Run → (program : TypedProgram) (number steps : ℕ) (e : ProcEntry) (s : StoreMap) →
      SpellsRun text program number steps e s → Wrote (TellsRun program number steps e s) before after status
  -- of that store, its trace in the triple, and in the run of a procedure
  pub trace : settings.mode ≡ Trace → (program : TypedProgram) (t : Triple) (e : ProcEntry) (s : StoreMap) → SpellsStore text program t e s →
      Wrote (TellsTriple program t e s) before after status
  pub trace_run : settings.mode ≡ Trace → (program : TypedProgram) (number steps : ℕ) (e : ProcEntry) (s : StoreMap) →
      SpellsRun text program number steps e s → Wrote (TellsRunTrace program number steps e s) before after status
  -- of what its one line behind `---` asks for of its program, such a report
  pub judge : settings.mode ≡ Judge → (program : TypedProgram) (triples : List Triple) (r : Request) → SpellsRequest text program triples r →
      Wrote (JudgesEach settings.limit program triples r) before after status
  -- of the program that it is read as, such a report on the starts of its triples
  pub meet : settings.mode ≡ Meet → (program : TypedProgram) (triples : List Triple) → IsReadAs text program triples →
      Wrote (MeetsEach settings.limit program triples) before after status
  -- of the program whose text it is, the canonical spelling
  pub format : settings.mode ≡ Format → (tree : Program) → IsTextOf text tree → WritesAll before after (spelling tree) × (status ≡ Good)

-- how the triples are told where such a report is counted: none where some field isn't told to be functional, and else each
pub data CountsEach (limit : ℕ) (program : TypedProgram) (triples : List Triple) : List TripleWay → Ending → Type 0 where
  stopped : (lines : List ℕ) (ways : List FieldWay) → TellsFields limit program.types lines ways → list_all is_functional ways ≡ false
      → CountsEach limit program triples [] (stopped_ending ways)
  judged : (lines : List ℕ) (fields : List FieldWay) (reports : List ℕ) (ways : List TripleWay) → TellsFields limit program.types lines fields
      → list_all is_functional fields ≡ true → TellsTriples limit program triples reports ways
      → CountsEach limit program triples ways (judged_ending ways)

-- the line of a seed, whose program has these triples, with the counts of such a report, and the status by how it ends
pub record GensEach (limit seed : ℕ) (program : TypedProgram) (triples : List Triple) (output : List ℕ) (status : Status) : Type 0 where
  pub ways : List TripleWay
  pub how : Ending
  pub counts : CountsEach limit program triples ways how
  pub line : output ≡ gen_line seed (length program.procs) (length triples) ways
  pub ends : status ≡ status_of how
