-- In each report, a field or a triple whose own Peak is within the limit has a verdict.
use Rattle.std.proofs.Common.{◌≡◌, ◌⊎◌, inl, inr, ◌≤◌, ◌<◌, ◌++◌, ℕ, zero, suc, true, List, [], Some, ap, refl, subst, arith}
use Rattle.std.specs.List.{list_all}
use Rattle.gta_theory.specs.Guides.{Spaces, IsGuide}
use Rattle.ws2s_core.specs.declared.formula.Formula.{Formula}
use Rattle.ws2s_theory.specs.Peaks.{HasPeak}
use Rattle.store_core.specs.declared.ids.FieldId.{FieldId}
use Rattle.store_core.specs.Tables.{TypeEntry, VarEntry}
use Rattle.store_exec.specs.declared.triple.Triple.{Triple}
use Rattle.tree_encode.specs.Spaces.{guide_of}
use Rattle.tree_encode.proofs.SpacesLemmas.{IsGuide-guide_of}
use Rattle.field_judge.specs.OneEach.{type_vars}
use Rattle.field_judge.specs.Judging.{formula_of}
use Rattle.triple_judge.specs.Judging.{HasTriplePeak}
use Rattle.pale_typed.specs.TypedPrograms.{TypedProgram}
use Rattle.program_judge.specs.declared.ways.FieldWay.{FieldWay}
use Rattle.program_judge.specs.declared.ways.FieldWay.TheVariants as fielded
use Rattle.program_judge.specs.declared.ways.TripleWay.{TripleWay}
use Rattle.program_judge.specs.declared.ways.TripleWay.TheVariants as tripled
use Rattle.program_judge.specs.declared.ways.Ending.{Ending}
use Rattle.program_judge.specs.Reports.{pointer_fields, is_functional}
use Rattle.program_judge.specs.Reports.{ReportsField, functional, ambiguous, field_at_limit, ReportsFields, no_field, next_field}
use Rattle.program_judge.specs.Reports.{ReportsTriple, valid, invalid, triple_at_limit, ReportsTriples, no_triple, next_triple}
use Rattle.program_judge.specs.Reports.{ReportsAll, totalled, ReportsProgram}
use Rattle.program_judge.specs.Reports as reported
use Rattle.program_promises.specs.Completeness.{IsFieldWithin, IsTripleWithin}
use Rattle.program_promises.specs.Telling.{AreFieldsDecided, AreTriplesDecided, TellsFields, TellsTriples, TellsProgram, stopped, judged}

-- what the layers below say of Peaks: each field and each triple has one
pub record Laws : Type 0 where
  pub peaks : (g : Spaces) (f : Formula) → IsGuide g → (n : ℕ) × HasPeak g f n
  pub greatest : (types : List TypeEntry) (vars : List VarEntry) (t : Triple) → (p : ℕ) × HasTriplePeak types vars t p

module _ (laws : Laws) (limit : ℕ) where
  -- ---- fields

  field_told : (types : List TypeEntry) (f : FieldId) (lines : List ℕ) (way : FieldWay) → ReportsField limit types f lines way →
      IsFieldWithin limit types f → (Some way ≡ Some fielded.Functional) ⊎ (Some way ≡ Some fielded.Ambiguous)
  field_told types f _ _ (functional is) within = inl refl
  field_told types f _ _ (ambiguous s c least) within = inr refl
  field_told types f _ _ (field_at_limit over) within =
      let (p, peak) = laws.peaks (guide_of types (type_vars types) []) (formula_of types f) (IsGuide-guide_of types (type_vars types) []) in
      let above : limit < p = over p peak in
      let below : p ≤ limit = within p peak in
      absurd (omega (arith, above, below))

  fields_told : (types : List TypeEntry) (fs : List FieldId) (lines : List ℕ) (ways : List FieldWay) → ReportsFields limit types fs lines ways →
      AreFieldsDecided limit types fs ways
  fields_told types _ _ _ no_field i f at within = absurd (cc)
  fields_told types _ _ _ (next_field g fs way ways lines others report rest) zero f at within =
      let same : g ≡ f = cc in
      field_told types f lines way (subst (λ (x : FieldId). ReportsField limit types x lines way) same report) within
  fields_told types _ _ _ (next_field g fs way ways lines others report rest) (suc i) f at within = fields_told types fs others ways rest i f at within

  pub whole_fields : (types : List TypeEntry) (lines : List ℕ) (ways : List FieldWay) → ReportsFields limit types (pointer_fields types) lines ways →
      TellsFields limit types lines ways
  whole_fields types lines ways reports = record {
    reports = reports;
    decided = fields_told types (pointer_fields types) lines ways reports;
  }

  -- ---- triples

  pub triple_decided : (program : TypedProgram) (k : ℕ) (t : Triple) (lines : List ℕ) (way : TripleWay) → ReportsTriple limit program k t lines way →
      IsTripleWithin limit program t → (way ≡ tripled.Valid) ⊎ (way ≡ tripled.Invalid)
  triple_decided program k t _ _ (valid e there is) within = inl refl
  triple_decided program k t _ _ (invalid e s why at there least) within = inr refl
  triple_decided program k t _ _ (triple_at_limit e there over) within =
      let (p, peak) = laws.greatest program.types e.vars t in
      let above : limit < p = over p peak in
      let below : p ≤ limit = within e p there peak in
      absurd (omega (arith, above, below))

  triple_told : (program : TypedProgram) (k : ℕ) (t : Triple) (lines : List ℕ) (way : TripleWay) → ReportsTriple limit program k t lines way →
      IsTripleWithin limit program t → (Some way ≡ Some tripled.Valid) ⊎ (Some way ≡ Some tripled.Invalid)
  triple_told program k t lines way report within =
      elim (triple_decided program k t lines way report within) as (λ _. (Some way ≡ Some tripled.Valid) ⊎ (Some way ≡ Some tripled.Invalid)) [
        | inl is ↦ inl (ap (λ (w : TripleWay). Some w) is)
        | inr is ↦ inr (ap (λ (w : TripleWay). Some w) is)
      ]

  triples_told : (program : TypedProgram) (k : ℕ) (ts : List Triple) (lines : List ℕ) (ways : List TripleWay) →
      ReportsTriples limit program k ts lines ways → AreTriplesDecided limit program ts ways
  triples_told program _ _ _ _ (no_triple k) i t at within = absurd (cc)
  triples_told program _ _ _ _ (next_triple k u us way ways lines others report rest) zero t at within =
      let same : u ≡ t = cc in
      triple_told program k t lines way (subst (λ (x : Triple). ReportsTriple limit program k x lines way) same report) within
  triples_told program _ _ _ _ (next_triple k u us way ways lines others report rest) (suc i) t at within =
      triples_told program (suc k) us others ways rest i t at within

  pub whole_triples : (program : TypedProgram) (triples : List Triple) (lines : List ℕ) (ways : List TripleWay) →
      ReportsTriples limit program 1 triples lines ways → TellsTriples limit program triples lines ways
  whole_triples program triples lines ways reports = record {
    reports = reports;
    decided = triples_told program 1 triples lines ways reports;
  }

  -- ---- programs

  all_told : (program : TypedProgram) (triples : List Triple) (lines output : List ℕ) (fields : List FieldWay) (how : Ending) →
      ReportsFields limit program.types (pointer_fields program.types) lines fields → list_all is_functional fields ≡ true →
      ReportsAll limit program triples output how → TellsProgram limit program triples (lines ++ output) how
  all_told program triples lines _ fields _ reports good (totalled others ways each) =
      judged lines fields others ways (whole_fields program.types lines fields reports) good
      (whole_triples program triples others ways each)

  pub program_told : (program : TypedProgram) (triples : List Triple) (output : List ℕ) (how : Ending) →
      ReportsProgram limit program triples output how → TellsProgram limit program triples output how
  program_told program triples _ _ (reported.stopped lines ways reports some) =
      stopped lines ways (whole_fields program.types lines ways reports) some
  program_told program triples _ _ (reported.judged lines ways output how reports good rest) =
      all_told program triples lines output ways how reports good rest
