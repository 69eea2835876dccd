-- What `check` writes for a text and how it ends.
use Rattle.std.specs.Prelude.{◌≡◌, ◌<◌, ◌≤◌, ◌++◌, ℕ, List, length, Option}
use Rattle.pale_io.specs.Whole.{WritesFront}
use Rattle.pale_text.specs.declared.refusal.Refusal.{Refusal}
use Rattle.store_core.specs.declared.ids.FieldId.{FieldId}
use Rattle.store_core.specs.Tables.{TypeEntry}
use Rattle.store_exec.specs.declared.triple.Triple.{Triple}
use Rattle.pale_typed.specs.TypedPrograms.{TypedProgram}
use Rattle.whole_program.specs.ProgramTexts.{IsReadAs, IsRefusedAs}
use Rattle.pale_status.specs.declared.status.Status.{Status}
use Rattle.pale_status.specs.declared.status.Status.TheVariants.{Good, Bad, Text, Limit}
use Rattle.pale_status.specs.Report.{refused_line, too_long_line}
use Rattle.pale_status.specs.Texts.{most_bytes}
use Rattle.program_judge.specs.declared.ways.Ending.{Ending}
use Rattle.program_judge.specs.declared.ways.Ending.TheVariants as ending
use Rattle.pale_status.specs.Written.{Wrote}
use Rattle.program_judge.specs.declared.ways.FieldWay.{FieldWay}
use Rattle.program_judge.specs.Reports.{pointer_fields, ReportsFields, ReportsProgram}

-- the status of a report, by how it ends
abbrev pub status_of : Ending → Status
status_of ending.Good = Good
status_of ending.Bad = Bad
status_of ending.Ambiguous = Text
status_of ending.Limit = Limit

-- what is written for a text, and the status: the text has too many bytes, is no program, or is one, whose fields and triples are
-- reported on
pub data Checks (limit : ℕ) (text : List ℕ) : List ℕ → Status → Type 0 where
  too_long : most_bytes < length text → Checks limit text too_long_line Text
  refused : (refusal : Refusal) → length text ≤ most_bytes → IsRefusedAs text refusal → Checks limit text (refused_line refusal) Text
  judged : (program : TypedProgram) (triples : List Triple) (output : List ℕ) (how : Ending) → length text ≤ most_bytes
      → IsReadAs text program triples → ReportsProgram limit program triples output how → Checks limit text output (status_of how)

-- how far reports on fields were written before a stop: those of the first fields, or a front of them
pub data WroteFields (limit : ℕ) (types : List TypeEntry) (before after : Option (List ℕ)) : Type 0 where
  after_fields : (done rest : List FieldId) (ways : List FieldWay) → pointer_fields types ≡ done ++ rest
      → Wrote (ReportsFields limit types done) before after ways
      → WroteFields limit types before after
  amid_field : (done rest : List FieldId) (lines : List ℕ) (ways : List FieldWay) → pointer_fields types ≡ done ++ rest
      → ReportsFields limit types done lines ways → WritesFront before after lines → WroteFields limit types before after
