-- What `judge` writes for a text and how it ends: what `check` reports on one triple, or on the pointer fields alone.
use Rattle.std.specs.Prelude.{◌≡◌, ◌<◌, ◌≤◌, ℕ, suc, false, List, [], ◌++◌, length, slice_get, Option, None, Some}
use Rattle.std.specs.List.{list_all}
use Rattle.pale_text.specs.declared.refusal.Refusal.{Refusal}
use Rattle.pale_text.specs.declared.refusal.TextStop.TheVariants as stop
use Rattle.store_text.specs.Lines.{lines_of}
use Rattle.store_exec.specs.declared.triple.Triple.{Triple}
use Rattle.witness_store.specs.Alike.{AreFunctional}
use Rattle.pale_typed.specs.TypedPrograms.{TypedProgram}
use Rattle.whole_program.specs.ProgramTexts.{IsReadAs}
use Rattle.pale_parts.specs.Parts.{IsCutAs, HasNoCut}
use Rattle.pale_parts.specs.declared.request.Request.{Request}
use Rattle.pale_parts.specs.declared.request.Request.TheVariants as request
use Rattle.pale_parts.specs.declared.request.RequestFault.{RequestFault}
use Rattle.pale_parts.specs.declared.request.RequestKind.TheVariants.{Missing}
use Rattle.pale_parts.specs.Requests.{IsRequest, IsRequestFault, request_line}
use Rattle.pale_starts.specs.Stops.{IsPartStop}
use Rattle.pale_status.specs.declared.status.Status.{Status}
use Rattle.pale_status.specs.declared.status.Status.TheVariants.{Good, Bad, Text, Limit}
use Rattle.pale_status.specs.Report.{refused_line, too_long_line}
use Rattle.pale_status.specs.Texts.{most_bytes}
use Rattle.program_judge.specs.declared.ways.FieldWay.{FieldWay}
use Rattle.program_judge.specs.declared.ways.TripleWay.{TripleWay}
use Rattle.program_judge.specs.declared.ways.TripleWay.TheVariants as tripled
use Rattle.program_judge.specs.Lines.{stopped_line}
use Rattle.program_judge.specs.Reports.{pointer_fields, is_functional, stopped_ending, ReportsFields, ReportsTriple}
use Rattle.pale_judging.specs.Checking.{status_of}

-- the status of a report on one triple alone
abbrev pub status_of_way : TripleWay → Status
status_of_way tripled.Valid = Good
status_of_way tripled.Invalid = Bad
status_of_way tripled.Limit = Limit

-- what is written of a program for a request, and the status: some field isn't told to be functional, and the fields' reports stand as in
-- `check`; every field is functional, and the fields were asked for; or it is, and this is the report of the triple that was asked for,
-- with its status
pub data JudgesRequest (limit : ℕ) (program : TypedProgram) (triples : List Triple) : Request → List ℕ → Status → Type 0 where
  stopped : (r : Request) (lines : List ℕ) (ways : List FieldWay) → ReportsFields limit program.types (pointer_fields program.types) lines ways
      → list_all is_functional ways ≡ false → JudgesRequest limit program triples r (lines ++ stopped_line) (status_of (stopped_ending ways))
  fields : AreFunctional program.types → JudgesRequest limit program triples request.Fields [] Good
  triple : (place : ℕ) (t : Triple) (lines : List ℕ) (how : TripleWay) → AreFunctional program.types → slice_get triples place ≡ Some t
      → ReportsTriple limit program (suc place) t lines how
      → JudgesRequest limit program triples (request.Triple (suc place)) lines (status_of_way how)

-- what is written for the lines behind the line `---`, where there is one, and the status: there is none; the lines are no request; or
-- they are one, for which this is written
pub data JudgesPart (limit : ℕ) (program : TypedProgram) (triples : List Triple) : Option (List (List ℕ)) → List ℕ → Status → Type 0 where
  no_part : JudgesPart limit program triples None (request_line (record { line = 0; kind = Missing })) Text
  no_request : (lines : List (List ℕ)) (fault : RequestFault) → IsRequestFault (length triples) lines fault
      → JudgesPart limit program triples (Some lines) (request_line fault) Text
  asked : (lines : List (List ℕ)) (r : Request) (output : List ℕ) (status : Status) → IsRequest (length triples) lines r
      → JudgesRequest limit program triples r output status → JudgesPart limit program triples (Some lines) output status

-- what is written for a text, and the status: the text has too many bytes; its program's part is refused; or that is a program, and this
-- is written for what follows it, which is nothing where there is no line `---`
pub data Judges (limit : ℕ) (text : List ℕ) : List ℕ → Status → Type 0 where
  too_long : most_bytes < length text → Judges limit text too_long_line Text
  refused : (refusal : Refusal) → length text ≤ most_bytes → IsPartStop text (stop.Refused refusal) → Judges limit text (refused_line refusal) Text
  uncut : (program : TypedProgram) (triples : List Triple) (output : List ℕ) (status : Status) → length text ≤ most_bytes → HasNoCut text
      → IsReadAs text program triples → JudgesPart limit program triples None output status → Judges limit text output status
  cut : (part after : List ℕ) (program : TypedProgram) (triples : List Triple) (output : List ℕ) (status : Status) → length text ≤ most_bytes
      → IsCutAs text part after → IsReadAs part program triples → JudgesPart limit program triples (Some (lines_of after)) output status
      → Judges limit text output status
