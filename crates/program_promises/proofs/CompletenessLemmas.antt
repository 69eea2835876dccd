-- Within the Peaks each field is told to be functional, and each triple to be valid or invalid.
use Rattle.std.proofs.Common.{◌≡◌, ◌∙◌, ◌⊎◌, inl, inr, ◌≤◌, ◌<◌, ◌+◌, ℕ, suc, Bool, true, false, cond, List, [], ◌∷◌, Option, Some, slice_get, refl, sym, ap}
use Rattle.std.proofs.Common.{subst, arith}
use Rattle.std.specs.Prelude.{Contains}
use Rattle.std.specs.List.{list_any, list_all}
use Rattle.std.proofs.lemmas.Bool.{false≢true}
use Rattle.gta_theory.specs.Guides.{Spaces, IsGuide}
use Rattle.gta_theory.proofs.ListsLemmas.{Contains-first, Contains-later}
use Rattle.ws2s_core.specs.declared.formula.Formula.{Formula}
use Rattle.ws2s_theory.specs.Peaks.{HasPeak}
use Rattle.store_core.specs.declared.ids.FieldId.{FieldId}
use Rattle.store_core.specs.declared.ids.CellId.{CellId}
use Rattle.store_core.specs.declared.kind.FieldKind.{FieldKind}
use Rattle.store_core.specs.declared.kind.FieldKind.TheVariants as field
use Rattle.store_core.specs.Tables.{TypeEntry, VarEntry, FieldEntry, field_at}
use Rattle.store_core.specs.Stores.{StoreMap}
use Rattle.witness_store.specs.Pointers.{IsPointerField}
use Rattle.store_exec.specs.declared.triple.Triple.{Triple}
use Rattle.routing_walks.specs.Destinations.{IsPointer}
use Rattle.routing_walks.specs.WellFormed.{IsFunctional}
use Rattle.tree_encode.specs.Spaces.{guide_of}
use Rattle.tree_encode.proofs.SpacesLemmas.{IsGuide-guide_of}
use Rattle.graph_view.specs.Fields.{has_kind}
use Rattle.graph_meaning.proofs.walks.ListedLemmas.{listed-field}
use Rattle.witness_store.specs.Alike.{AreFunctional}
use Rattle.field_judge.specs.OneEach.{type_vars}
use Rattle.field_judge.specs.Judging.{formula_of, HasFieldPeak, IsLeastFork}
use Rattle.triple_judge.specs.Judging.{HasTriplePeak}
use Rattle.pale_typed.specs.declared.typed.ProcEntry.{ProcEntry}
use Rattle.pale_typed.specs.TypedPrograms.{TypedProgram}
use Rattle.program_judge.specs.declared.ways.FieldWay.{FieldWay}
use Rattle.program_judge.specs.declared.ways.FieldWay.TheVariants as fielded
use Rattle.program_judge.specs.declared.ways.TripleWay.{TripleWay}
use Rattle.program_judge.specs.declared.ways.TripleWay.TheVariants as tripled
use Rattle.program_judge.specs.declared.ways.Ending.{Ending}
use Rattle.program_judge.specs.declared.ways.Ending.TheVariants as ending
use Rattle.program_judge.specs.Reports.{is_pointer, pointer_fields, is_functional, is_invalid, is_at_limit, judged_ending}
use Rattle.program_judge.specs.Reports.{ReportsField, functional, ambiguous, field_at_limit, ReportsFields, no_field, next_field}
use Rattle.program_judge.specs.Reports.{ReportsTriple, valid, invalid, triple_at_limit, ReportsTriples, no_triple, next_triple}
use Rattle.program_judge.specs.Reports.{ReportsAll, totalled, ReportsProgram, stopped, judged}
use Rattle.program_promises.specs.Completeness.{ArePeaksWithin}

-- what the layers below say of fields and of Peaks
pub record Laws : Type 0 where
  pub apart : (types : List TypeEntry) (f : FieldId) (s : StoreMap) (c : CellId) → IsLeastFork types f s c → IsFunctional types f → ⊥
  pub peaks : (g : Spaces) (f : Formula) → IsGuide g → (n : ℕ) × HasPeak g f n
  pub greatest : (types : List TypeEntry) (vars : List VarEntry) (t : Triple) → (p : ℕ) × HasTriplePeak types vars t p

pointer-of : (kind : FieldKind) → is_pointer kind ≡ true → IsPointer kind
pointer-of field.Bool is = absurd (false≢true is)
pointer-of (field.Data target) is = absurd (false≢true is)
pointer-of (field.Pointer target along) is = tt

pointer-field : (types : List TypeEntry) (f : FieldId) → Contains (pointer_fields types) f → IsPointerField types f
pointer-field types f inside =
    let (entry, there, is) = listed-field types (has_kind is_pointer) f inside in
    rw there (pointer-of entry.kind is)

module _ (laws : Laws) (limit : ℕ) (program : TypedProgram) (triples : List Triple) (within : ArePeaksWithin limit program triples) where
  -- ---- fields

  one-functional : (f : FieldId) (lines : List ℕ) (way : FieldWay) → IsPointerField program.types f → ReportsField limit program.types f lines way →
      is_functional way ≡ true
  one-functional f _ _ pointer (functional is) = refl
  one-functional f _ _ pointer (ambiguous s c least) = absurd (laws.apart program.types f s c least (within.functional f pointer))
  one-functional f _ _ pointer (field_at_limit over) =
      let (p, peak) = laws.peaks (guide_of program.types (type_vars program.types) []) (formula_of program.types f)
      (IsGuide-guide_of program.types (type_vars program.types) []) in
      let above : limit < p = over p peak in
      let below : p ≤ limit = within.fields f pointer p peak in
      absurd (omega (arith, above, below))

  both-functional : (way : FieldWay) (ways : List FieldWay) → is_functional way ≡ true → list_all is_functional ways ≡ true →
      list_all is_functional (way ∷ ways) ≡ true
  both-functional fielded.Functional ways one rest = rest
  both-functional fielded.Ambiguous ways one rest = absurd (false≢true one)
  both-functional fielded.Limit ways one rest = absurd (false≢true one)

  all-functional : (fs : List FieldId) (lines : List ℕ) (ways : List FieldWay) → ((f : FieldId) → Contains fs f → IsPointerField program.types f) →
      ReportsFields limit program.types fs lines ways → list_all is_functional ways ≡ true
  all-functional _ _ _ pointers no_field = refl
  all-functional _ _ _ pointers (next_field f fs way ways lines others report more) =
      both-functional way ways (one-functional f lines way (pointers f (Contains-first f fs)) report)
      (all-functional fs others ways (λ g inside. pointers g (Contains-later f g fs inside)) more)

  -- ---- triples

  one-decided : (k : ℕ) (t : Triple) (lines : List ℕ) (way : TripleWay) → Contains triples t → ReportsTriple limit program k t lines way →
      is_at_limit way ≡ false
  one-decided k t _ _ inside (valid e there is) = refl
  one-decided k t _ _ inside (invalid e s why at there least) = refl
  one-decided k t _ _ inside (triple_at_limit e there over) =
      let (p, peak) = laws.greatest program.types e.vars t in
      let above : limit < p = over p peak in
      let below : p ≤ limit = within.each t inside e p there peak in
      absurd (omega (arith, above, below))

  both-decided : (way : TripleWay) (ways : List TripleWay) → is_at_limit way ≡ false → list_any is_at_limit ways ≡ false →
      list_any is_at_limit (way ∷ ways) ≡ false
  both-decided tripled.Valid ways one rest = rest
  both-decided tripled.Invalid ways one rest = rest
  both-decided tripled.Limit ways one rest = absurd (false≢true (sym one))

  all-decided : (k : ℕ) (ts : List Triple) (lines : List ℕ) (ways : List TripleWay) → ((t : Triple) → Contains ts t → Contains triples t) →
      ReportsTriples limit program k ts lines ways → list_any is_at_limit ways ≡ false
  all-decided _ _ _ _ among (no_triple k) = refl
  all-decided _ _ _ _ among (next_triple k t ts way ways lines others report more) =
      both-decided way ways (one-decided k t lines way (among t (Contains-first t ts)) report)
      (all-decided (suc k) ts others ways (λ u inside. among u (Contains-later t u ts inside)) more)

  -- ---- endings

  verdict-of : (some atop : Bool) → atop ≡ false →
      (cond some ending.Bad (cond atop ending.Limit ending.Good) ≡ ending.Good) ⊎ (cond some ending.Bad (cond atop ending.Limit ending.Good) ≡ ending.Bad)
  verdict-of true atop none = inr refl
  verdict-of false true none = absurd (false≢true (sym none))
  verdict-of false false none = inl refl

  verdict-all : (output : List ℕ) (how : Ending) → ReportsAll limit program triples output how → (how ≡ ending.Good) ⊎ (how ≡ ending.Bad)
  verdict-all _ _ (totalled lines ways reports) =
      verdict-of (list_any is_invalid ways) (list_any is_at_limit ways) (all-decided 1 triples lines ways (λ t inside. inside) reports)

  verdict-program : (output : List ℕ) (how : Ending) → ReportsProgram limit program triples output how → (how ≡ ending.Good) ⊎ (how ≡ ending.Bad)
  verdict-program _ _ (stopped lines ways fields some) =
      absurd (false≢true (sym some ∙ all-functional (pointer_fields program.types) lines ways (pointer-field program.types) fields))
  verdict-program _ _ (judged lines ways output how fields good rest) = verdict-all output how rest

pub verdicts : Laws → (limit : ℕ) (program : TypedProgram) (triples : List Triple) (output : List ℕ) (how : Ending) →
    ArePeaksWithin limit program triples → ReportsProgram limit program triples output how → (how ≡ ending.Good) ⊎ (how ≡ ending.Bad)
verdicts laws limit program triples output how within reports = verdict-program laws limit program triples within output how reports
