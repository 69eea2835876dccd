-- Reports in which each field and each triple whose own Peak is within the limit has a verdict, whatever the Peaks of the others are.
use Rattle.std.specs.Prelude.{◌≡◌, ◌⊎◌, ◌++◌, ℕ, true, false, List, slice_get, Some}
use Rattle.std.specs.List.{list_all}
use Rattle.store_core.specs.declared.ids.FieldId.{FieldId}
use Rattle.store_core.specs.Tables.{TypeEntry}
use Rattle.store_exec.specs.declared.triple.Triple.{Triple}
use Rattle.pale_typed.specs.TypedPrograms.{TypedProgram}
use Rattle.program_judge.specs.declared.ways.FieldWay.{FieldWay}
use Rattle.program_judge.specs.declared.ways.FieldWay.TheVariants as fielded
use Rattle.program_judge.specs.declared.ways.TripleWay.{TripleWay}
use Rattle.program_judge.specs.declared.ways.TripleWay.TheVariants as tripled
use Rattle.program_judge.specs.declared.ways.Ending.{Ending}
use Rattle.program_judge.specs.Lines.{stopped_line}
use Rattle.program_judge.specs.Reports.{pointer_fields, is_functional, stopped_ending, judged_ending, totals_of, ReportsFields, ReportsTriples}
use Rattle.program_promises.specs.Completeness.{IsFieldWithin, IsTripleWithin}

-- each of the fields whose own Peak is within the limit was told to be functional or ambiguous
abbrev pub AreFieldsDecided : ℕ → List TypeEntry → List FieldId → List FieldWay → Type 0
AreFieldsDecided limit types fs ways = (i : ℕ) (f : FieldId) → slice_get fs i ≡ Some f → IsFieldWithin limit types f →
    (slice_get ways i ≡ Some fielded.Functional) ⊎ (slice_get ways i ≡ Some fielded.Ambiguous)

-- each of the triples whose own Peak is within the limit was told to be valid or invalid
abbrev pub AreTriplesDecided : ℕ → TypedProgram → List Triple → List TripleWay → Type 0
AreTriplesDecided limit program triples ways = (i : ℕ) (t : Triple) → slice_get triples i ≡ Some t → IsTripleWithin limit program t →
    (slice_get ways i ≡ Some tripled.Valid) ⊎ (slice_get ways i ≡ Some tripled.Invalid)

-- what is written of the fields in order, how they are told, and that each within its Peak is decided
pub record TellsFields (limit : ℕ) (types : List TypeEntry) (lines : List ℕ) (ways : List FieldWay) : Type 0 where
  pub reports : ReportsFields limit types (pointer_fields types) lines ways
  pub decided : AreFieldsDecided limit types (pointer_fields types) ways

-- what is written of the triples in order, how they are told, and that each within its Peak is decided
pub record TellsTriples (limit : ℕ) (program : TypedProgram) (triples : List Triple) (lines : List ℕ) (ways : List TripleWay) : Type 0 where
  pub reports : ReportsTriples limit program 1 triples lines ways
  pub decided : AreTriplesDecided limit program triples ways

-- such a report of the program with these triples, and how it ends: some field isn't told to be functional; or every field is, and
-- each triple is told
pub data TellsProgram (limit : ℕ) (program : TypedProgram) (triples : List Triple) : List ℕ → Ending → Type 0 where
  stopped : (lines : List ℕ) (ways : List FieldWay) → TellsFields limit program.types lines ways → list_all is_functional ways ≡ false
      → TellsProgram limit program triples (lines ++ stopped_line) (stopped_ending ways)
  judged : (lines : List ℕ) (fields : List FieldWay) (reports : List ℕ) (ways : List TripleWay) → TellsFields limit program.types lines fields
      → list_all is_functional fields ≡ true → TellsTriples limit program triples reports ways
      → TellsProgram limit program triples (lines ++ (reports ++ totals_of ways)) (judged_ending ways)
