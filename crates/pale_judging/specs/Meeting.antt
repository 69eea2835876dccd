-- What `meet` writes for a text and how it ends: a least store that meets each triple of a program, or that none does.
use Rattle.std.specs.Prelude.{◌≡◌, ◌<◌, ◌≤◌, ℕ, false, if◌then◌else◌, List, ◌++◌, length}
use Rattle.std.specs.List.{list_any, list_all}
use Rattle.pale_text.specs.declared.refusal.Refusal.{Refusal}
use Rattle.store_exec.specs.declared.triple.Triple.{Triple}
use Rattle.witness_store.specs.Alike.{AreFunctional}
use Rattle.pale_typed.specs.TypedPrograms.{TypedProgram}
use Rattle.whole_program.specs.ProgramTexts.{IsReadAs, IsRefusedAs}
use Rattle.pale_status.specs.declared.status.Status.{Status}
use Rattle.pale_status.specs.declared.status.Status.TheVariants.{Good, Bad, Text, Limit}
use Rattle.pale_status.specs.Report.{refused_line, too_long_line}
use Rattle.pale_status.specs.Texts.{most_bytes}
use Rattle.program_judge.specs.declared.ways.FieldWay.{FieldWay}
use Rattle.program_judge.specs.Lines.{stopped_line}
use Rattle.program_judge.specs.Reports.{pointer_fields, is_functional, stopped_ending, ReportsFields}
use Rattle.program_judge.specs.declared.meet_way.MeetWay.{MeetWay}
use Rattle.program_judge.specs.Meets.{ReportsMeets, is_empty, is_at_limit, totals_of}
use Rattle.pale_judging.specs.Checking.{status_of}

-- a triple that no store meets counts before one at the limit
abbrev pub meet_status : List MeetWay → Status
meet_status ways = if list_any is_empty ways then Bad else (if list_any is_at_limit ways then Limit else Good)

-- what is written of a program, and the status: some field isn't told to be functional, and the fields' reports stand as in `check`; or
-- every field is functional, and of each triple it is told whether a store meets it, and then the totals
pub data MeetsProgram (limit : ℕ) (program : TypedProgram) (triples : List Triple) : List ℕ → Status → Type 0 where
  stopped : (lines : List ℕ) (ways : List FieldWay) → ReportsFields limit program.types (pointer_fields program.types) lines ways
      → list_all is_functional ways ≡ false → MeetsProgram limit program triples (lines ++ stopped_line) (status_of (stopped_ending ways))
  told : (lines : List ℕ) (ways : List MeetWay) → AreFunctional program.types → ReportsMeets limit program 1 triples lines ways
      → MeetsProgram limit program triples (lines ++ totals_of ways) (meet_status ways)

-- what is written for a text, and the status: the text has too many bytes, is no program, or is one, of whose triples this is told
pub data MeetsText (limit : ℕ) (text : List ℕ) : List ℕ → Status → Type 0 where
  too_long : most_bytes < length text → MeetsText limit text too_long_line Text
  refused : (refusal : Refusal) → length text ≤ most_bytes → IsRefusedAs text refusal → MeetsText limit text (refused_line refusal) Text
  met : (program : TypedProgram) (triples : List Triple) (output : List ℕ) (status : Status) → length text ≤ most_bytes
      → IsReadAs text program triples → MeetsProgram limit program triples output status → MeetsText limit text output status
