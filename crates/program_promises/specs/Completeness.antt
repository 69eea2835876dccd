-- Programs whose fields and triples can be decided within a limit of decision nodes.
use Rattle.std.specs.Prelude.{◌≡◌, ◌≤◌, ℕ, List, Contains, Some, slice_get}
use Rattle.store_core.specs.declared.ids.FieldId.{FieldId}
use Rattle.store_core.specs.Tables.{TypeEntry}
use Rattle.witness_store.specs.Pointers.{IsPointerField}
use Rattle.store_exec.specs.declared.triple.Triple.{Triple}
use Rattle.witness_store.specs.Alike.{AreFunctional}
use Rattle.field_judge.specs.Judging.{HasFieldPeak}
use Rattle.triple_judge.specs.Judging.{HasTriplePeak}
use Rattle.pale_typed.specs.declared.typed.ProcEntry.{ProcEntry}
use Rattle.pale_typed.specs.TypedPrograms.{TypedProgram}
use Rattle.whole_program.specs.ProgramTexts.{IsReadAs}

-- the Peak of the field isn't above the limit
abbrev pub IsFieldWithin : ℕ → List TypeEntry → FieldId → Type 0
IsFieldWithin limit types f = (p : ℕ) → HasFieldPeak types f p → p ≤ limit

-- the Peak of the triple, over the variables of its procedure, isn't above the limit
abbrev pub IsTripleWithin : ℕ → TypedProgram → Triple → Type 0
IsTripleWithin limit program t = (e : ProcEntry) (p : ℕ) → slice_get program.procs t.proc ≡ Some e → HasTriplePeak program.types e.vars t p → p ≤ limit

-- every pointer field is functional, and no Peak of a field or of a triple is above the limit
pub record ArePeaksWithin (limit : ℕ) (program : TypedProgram) (triples : List Triple) : Type 0 where
  pub functional : AreFunctional program.types
  pub fields : (f : FieldId) → IsPointerField program.types f → IsFieldWithin limit program.types f
  pub each : (t : Triple) → Contains triples t → IsTripleWithin limit program t

-- the text is that of such a program
pub record IsWithinPeaks (limit : ℕ) (text : List ℕ) : Type 0 where
  pub program : TypedProgram
  pub triples : List Triple
  pub read : IsReadAs text program triples
  pub within : ArePeaksWithin limit program triples
