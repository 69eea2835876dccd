-- What is written of a typed program, by the limit of decision nodes: of its pointer fields in order, and where all are functional, of
-- its triples in order and then the totals.
use Rattle.std.specs.Prelude.{◌≡◌, ◌<◌, ℕ, suc, Bool, true, false, if◌then◌else◌, List, [], ◌∷◌, ◌++◌, count_by, length, slice_get, Some}
use Rattle.std.specs.List.{list_any, list_all}
use Rattle.store_core.specs.declared.ids.FieldId.{FieldId}
use Rattle.store_core.specs.declared.ids.CellId.{CellId}
use Rattle.store_core.specs.declared.kind.FieldKind.{FieldKind}
use Rattle.store_core.specs.declared.kind.FieldKind.TheVariants as field
use Rattle.store_core.specs.Tables.{TypeEntry}
use Rattle.store_core.specs.Stores.{StoreMap}
use Rattle.routing_walks.specs.WellFormed.{IsFunctional}
use Rattle.graph_view.specs.Fields.{fields_of_kind}
use Rattle.store_exec.specs.declared.cause.Cause.{Cause}
use Rattle.store_exec.specs.declared.triple.Triple.{Triple}
use Rattle.store_text.specs.StoreText.{store_text_of}
use Rattle.pale_typed.specs.declared.typed.ProcEntry.{ProcEntry}
use Rattle.pale_typed.specs.TypedPrograms.{TypedProgram}
use Rattle.field_judge.specs.OneEach.{type_vars}
use Rattle.field_judge.specs.Judging.{HasFieldPeak, IsLeastFork}
use Rattle.triple_judge.specs.Judging.{HasTriplePeak, IsValid, IsLeastFailing}
use Rattle.program_judge.specs.declared.ways.FieldWay.{FieldWay}
use Rattle.program_judge.specs.declared.ways.FieldWay.TheVariants as fielded
use Rattle.program_judge.specs.declared.ways.TripleWay.{TripleWay}
use Rattle.program_judge.specs.declared.ways.TripleWay.TheVariants as tripled
use Rattle.program_judge.specs.declared.ways.Ending.{Ending}
use Rattle.program_judge.specs.declared.ways.Ending.TheVariants as ending
use Rattle.program_judge.specs.Lines.{ambiguous_line, field_limit_line, stopped_line, valid_line, limit_line, invalid_line, totals_line}

-- ---- pointer fields

abbrev pub is_pointer : FieldKind → Bool
is_pointer field.Bool = false
is_pointer (field.Data target) = false
is_pointer (field.Pointer target along) = true

-- types in order, and the fields of each in order
abbrev pub pointer_fields : List TypeEntry → List FieldId
pointer_fields types = fields_of_kind types is_pointer

-- what is written of a field: nothing of a functional one; a least backbone where it is ambiguous; or that it met the limit, only where
-- its Peak exceeds it
pub data ReportsField (limit : ℕ) (types : List TypeEntry) (f : FieldId) : List ℕ → FieldWay → Type 0 where
  functional : IsFunctional types f → ReportsField limit types f [] fielded.Functional
  ambiguous : (s : StoreMap) (c : CellId) → IsLeastFork types f s c
      → ReportsField limit types f (ambiguous_line types f c ++ store_text_of types (type_vars types) s) fielded.Ambiguous
  field_at_limit : ((p : ℕ) → HasFieldPeak types f p → limit < p) → ReportsField limit types f (field_limit_line types f) fielded.Limit

-- of these fields, one after the other
pub data ReportsFields (limit : ℕ) (types : List TypeEntry) : List FieldId → List ℕ → List FieldWay → Type 0 where
  no_field : ReportsFields limit types [] [] []
  next_field : (f : FieldId) (fs : List FieldId) (way : FieldWay) (ways : List FieldWay) (lines others : List ℕ) → ReportsField limit types f lines way
      → ReportsFields limit types fs others ways → ReportsFields limit types (f ∷ fs) (lines ++ others) (way ∷ ways)

-- ---- triples

-- what is written of the triple with this number, counted from 1, over the variables of its procedure: that it is valid; a least store
-- from which it fails; or that it met the limit, only where its Peak exceeds it
pub data ReportsTriple (limit : ℕ) (program : TypedProgram) (k : ℕ) (t : Triple) : List ℕ → TripleWay → Type 0 where
  valid : (e : ProcEntry) → slice_get program.procs t.proc ≡ Some e → IsValid program.types e.vars t
      → ReportsTriple limit program k t (valid_line k e.proc.name t.line) tripled.Valid
  invalid : (e : ProcEntry) (s : StoreMap) (why : Cause) (at : ℕ) → slice_get program.procs t.proc ≡ Some e
      → IsLeastFailing program.types e.vars t s why at
      → ReportsTriple limit program k t (invalid_line k e.proc.name t.line why at ++ store_text_of program.types e.vars s) tripled.Invalid
  triple_at_limit : (e : ProcEntry) → slice_get program.procs t.proc ≡ Some e
      → ((p : ℕ) → HasTriplePeak program.types e.vars t p → limit < p)
      → ReportsTriple limit program k t (limit_line k e.proc.name t.line) tripled.Limit

-- of these triples, numbered from k on, one after the other
pub data ReportsTriples (limit : ℕ) (program : TypedProgram) : ℕ → List Triple → List ℕ → List TripleWay → Type 0 where
  no_triple : (k : ℕ) → ReportsTriples limit program k [] [] []
  next_triple : (k : ℕ) (t : Triple) (ts : List Triple) (way : TripleWay) (ways : List TripleWay) (lines others : List ℕ)
      → ReportsTriple limit program k t lines way → ReportsTriples limit program (suc k) ts others ways
      → ReportsTriples limit program k (t ∷ ts) (lines ++ others) (way ∷ ways)

-- ---- programs

abbrev pub is_functional : FieldWay → Bool
is_functional fielded.Functional = true
is_functional fielded.Ambiguous = false
is_functional fielded.Limit = false

abbrev pub is_ambiguous : FieldWay → Bool
is_ambiguous fielded.Functional = false
is_ambiguous fielded.Ambiguous = true
is_ambiguous fielded.Limit = false

abbrev pub is_valid : TripleWay → Bool
is_valid tripled.Valid = true
is_valid tripled.Invalid = false
is_valid tripled.Limit = false

abbrev pub is_invalid : TripleWay → Bool
is_invalid tripled.Valid = false
is_invalid tripled.Invalid = true
is_invalid tripled.Limit = false

abbrev pub is_at_limit : TripleWay → Bool
is_at_limit tripled.Valid = false
is_at_limit tripled.Invalid = false
is_at_limit tripled.Limit = true

-- where some field isn't functional
abbrev pub stopped_ending : List FieldWay → Ending
stopped_ending ways = if list_any is_ambiguous ways then ending.Ambiguous else ending.Limit

-- an invalid triple counts before one at the limit
abbrev pub judged_ending : List TripleWay → Ending
judged_ending ways =
    if list_any is_invalid ways then ending.Bad else (if list_any is_at_limit ways then ending.Limit else ending.Good)

abbrev pub totals_of : List TripleWay → List ℕ
totals_of ways = totals_line (length ways) (count_by is_valid ways) (count_by is_invalid ways) (count_by is_at_limit ways)

-- what is written of all triples, and how that ends: a report of each, and then the totals
pub data ReportsAll (limit : ℕ) (program : TypedProgram) (triples : List Triple) : List ℕ → Ending → Type 0 where
  totalled : (lines : List ℕ) (ways : List TripleWay) → ReportsTriples limit program 1 triples lines ways
      → ReportsAll limit program triples (lines ++ totals_of ways) (judged_ending ways)

-- what is written of the program with these triples, and how that ends: some field isn't functional, and no triple is judged; or every
-- field is, and each triple is judged
pub data ReportsProgram (limit : ℕ) (program : TypedProgram) (triples : List Triple) : List ℕ → Ending → Type 0 where
  stopped : (lines : List ℕ) (ways : List FieldWay) → ReportsFields limit program.types (pointer_fields program.types) lines ways
      → list_all is_functional ways ≡ false → ReportsProgram limit program triples (lines ++ stopped_line) (stopped_ending ways)
  judged : (lines : List ℕ) (ways : List FieldWay) (output : List ℕ) (how : Ending)
      → ReportsFields limit program.types (pointer_fields program.types) lines ways → list_all is_functional ways ≡ true
      → ReportsAll limit program triples output how → ReportsProgram limit program triples (lines ++ output) how

-- more can be written behind these bytes, with which they are allowed
pub record CanEnd (Allowed : List ℕ → Ending → Type 0) (lines : List ℕ) : Type 0 where
  pub tail : List ℕ
  pub how : Ending
  pub allowed : Allowed (lines ++ tail) how
  pub more : 0 < length tail
