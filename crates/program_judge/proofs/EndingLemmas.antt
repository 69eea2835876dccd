-- Whatever was told so far of fields or of triples, more can be told until the end.
use Rattle.std.proofs.Common.{◌≡◌, inl, inr, ◌+◌, ◌<◌, ◌++◌, ℕ, suc, Bool, true, false, List, [], ◌∷◌, length, Contains, refl, sym, ap}
use Rattle.std.proofs.Common.{subst, ◌∙◌, arith, append_assoc, length-append}
use Rattle.std.specs.Prelude.{All}
use Rattle.std.specs.List.{list_all}
use Rattle.std.proofs.lemmas.Bool.{false≢true}
use Rattle.std.proofs.lemmas.List.Elements.{All-head, All-tail}
use Rattle.gta_theory.proofs.ListsLemmas.{Contains-cases}
use Rattle.store_core.specs.declared.ids.FieldId.{FieldId}
use Rattle.store_core.specs.declared.kind.FieldKind.{FieldKind}
use Rattle.store_core.specs.declared.kind.FieldKind.TheVariants as field
use Rattle.store_core.specs.Tables.{TypeEntry, FieldEntry, field_at}
use Rattle.store_core.proofs.FittingLemmas.{IsSomeAnd-at}
use Rattle.store_exec.specs.declared.triple.Triple.{Triple}
use Rattle.store_text.specs.StoreText.{store_text_of}
use Rattle.routing_walks.specs.Destinations.{IsPointer}
use Rattle.routing_walks.specs.WellFormed.{IsFunctional}
use Rattle.routing_walks.proofs.DecidedLemmas.{in_none}
use Rattle.graph_view.specs.Fields.{has_kind}
use Rattle.graph_meaning.proofs.walks.ListedLemmas.{field-listed}
use Rattle.witness_store.specs.Alike.{AreFunctional}
use Rattle.pale_typed.specs.TypedPrograms.{TypedProgram}
use Rattle.pale_typed.specs.Fitting.{ProgramFits}
use Rattle.hoare_split.specs.Fitting.{FitsProgram}
use Rattle.field_judge.specs.OneEach.{type_vars}
use Rattle.triple_judge.proofs.ExistenceLemmas.{judged-somehow}
use Rattle.program_judge.specs.declared.ways.FieldWay.{FieldWay}
use Rattle.program_judge.specs.declared.ways.FieldWay.TheVariants as fielded
use Rattle.program_judge.specs.declared.ways.TripleWay.{TripleWay}
use Rattle.program_judge.specs.declared.ways.TripleWay.TheVariants as tripled
use Rattle.program_judge.specs.Lines.{ambiguous_line, stopped_line, valid_line, invalid_line}
use Rattle.program_judge.specs.Reports.{is_pointer, pointer_fields, is_functional, stopped_ending, judged_ending, totals_of, CanEnd}
use Rattle.program_judge.specs.Reports.{ReportsField, functional, ambiguous, field_at_limit, ReportsFields, no_field, next_field}
use Rattle.program_judge.specs.Reports.{ReportsTriple, valid, invalid, ReportsTriples, no_triple, next_triple, ReportsAll, totalled, ReportsProgram, stopped}
use Rattle.program_judge.specs.Reports.{judged}
use Rattle.program_judge.proofs.FieldsLemmas.{field-somehow}
use Rattle.program_judge.proofs.StandingLemmas.{can-be-judged-by}
use Rattle.program_judge.proofs.JoinedLemmas.{fields-joined, triples-joined}

-- ---- what is told of functional fields

way-functional : (limit : ℕ) (types : List TypeEntry) (f : FieldId) (lines : List ℕ) (way : FieldWay) → ReportsField limit types f lines way →
    is_functional way ≡ true → IsFunctional types f
way-functional limit types f _ _ (functional is) good = is
way-functional limit types f _ _ (ambiguous s c least) good = absurd (false≢true good)
way-functional limit types f _ _ (field_at_limit over) good = absurd (false≢true good)

-- and nothing is written of it
way-silent : (limit : ℕ) (types : List TypeEntry) (f : FieldId) (lines : List ℕ) (way : FieldWay) → ReportsField limit types f lines way →
    is_functional way ≡ true → lines ≡ []
way-silent limit types f _ _ (functional is) good = refl
way-silent limit types f _ _ (ambiguous s c least) good = absurd (false≢true good)
way-silent limit types f _ _ (field_at_limit over) good = absurd (false≢true good)

first-good : (way : FieldWay) (ways : List FieldWay) → list_all is_functional (way ∷ ways) ≡ true → (is_functional way ≡ true) ×
    (list_all is_functional ways ≡ true)
first-good fielded.Functional ways good = (refl, good)
first-good fielded.Ambiguous ways good = absurd (false≢true good)
first-good fielded.Limit ways good = absurd (false≢true good)

each-functional : (limit : ℕ) (types : List TypeEntry) (fs : List FieldId) (lines : List ℕ) (ways : List FieldWay) → ReportsFields limit types fs lines ways →
    list_all is_functional ways ≡ true → (f : FieldId) → Contains fs f → IsFunctional types f
each-functional limit types _ _ _ no_field good f inside = absurd (in_none f inside)
each-functional limit types _ _ _ (next_field g gs way ways lines others report more) good f inside =
    let both = first-good way ways good in
    elim (Contains-cases g f gs inside) as (λ _. IsFunctional types f) [
      | inl same ↦ subst (λ (h : FieldId). IsFunctional types h) same (way-functional limit types g lines way report both.0)
      | inr later ↦ each-functional limit types gs others ways more both.1 f later
    ]

pointer-kind : (kind : FieldKind) → IsPointer kind → is_pointer kind ≡ true
pointer-kind field.Bool pointer = absurd pointer
pointer-kind (field.Data target) pointer = absurd pointer
pointer-kind (field.Pointer target along) pointer = refl

-- where all pointer fields were told to be so, they are
pub all-functional : (limit : ℕ) (types : List TypeEntry) (lines : List ℕ) (ways : List FieldWay) → ReportsFields limit types (pointer_fields types) lines
    ways →
    list_all is_functional ways ≡ true → AreFunctional types
all-functional limit types lines ways reports good f pointer =
    let (entry, there, kind) = IsSomeAnd-at (field_at types f) (λ (e : FieldEntry). IsPointer e.kind) pointer in
    each-functional limit types (pointer_fields types) lines ways reports good f
    (field-listed types (has_kind is_pointer) f entry there (pointer-kind entry.kind kind))

-- ---- something can be told of each field and of each triple

fields-told : (limit : ℕ) (types : List TypeEntry) → ((f : FieldId) → (lines : List ℕ) × (way : FieldWay) × ReportsField limit types f lines way) →
    (fs : List FieldId) → (lines : List ℕ) × (ways : List FieldWay) × ReportsFields limit types fs lines ways
fields-told limit types each [] = ([], [], no_field)
fields-told limit types each (f ∷ fs) =
    let (lines, way, report) = each f in
    let (others, ways, more) = fields-told limit types each fs in
    (lines ++ others, way ∷ ways, next_field f fs way ways lines others report more)

module _ (limit : ℕ) (program : TypedProgram) (fits : ProgramFits program) where
  field-told : (f : FieldId) → (lines : List ℕ) × (way : FieldWay) × ReportsField limit program.types f lines way
  field-told f = elim (field-somehow program.types f fits.types) as (λ _. (lines : List ℕ) × (way : FieldWay) × ReportsField limit program.types f lines way) [
    | inl is ↦ ([], fielded.Functional, functional is)
    | inr (s, c, least) ↦ (
      ambiguous_line program.types f c ++ store_text_of program.types (type_vars program.types) s,
      fielded.Ambiguous,
      ambiguous s c least,
    )
  ]

  module _ (every : AreFunctional program.types) where
    triple-told : (k : ℕ) (t : Triple) → FitsProgram program t → (lines : List ℕ) × (way : TripleWay) × ReportsTriple limit program k t lines way
    triple-told k t own =
        elim (judged-somehow program.types own.entry.vars t fits.types every (can-be-judged-by program t own))
        as (λ _. (lines : List ℕ) × (way : TripleWay) × ReportsTriple limit program k t lines way) [
          | inl is ↦ (valid_line k own.entry.proc.name t.line, tripled.Valid, valid own.entry own.there is)
          | inr (s, why, line, least) ↦ (
            invalid_line k own.entry.proc.name t.line why line ++ store_text_of program.types own.entry.vars s,
            tripled.Invalid,
            invalid own.entry s why line own.there least,
          )
        ]

    triples-told : (k : ℕ) (ts : List Triple) → All (FitsProgram program) ts → (lines : List ℕ) × (ways : List TripleWay) × ReportsTriples limit program k
        ts lines ways
    triples-told k [] own = ([], [], no_triple k)
    triples-told k (t ∷ ts) own =
        let first : FitsProgram program t = All-head (FitsProgram program) t ts own in
        let (lines, way, report) = triple-told k t first in
        let (others, ways, more) = triples-told (suc k) ts (All-tail (FitsProgram program) t ts own) in
        (lines ++ others, way ∷ ways, next_triple k t ts way ways lines others report more)

-- ---- to the end

all-later : {X : Type 0} (P : X → Type 0) (done rest : List X) → All P (done ++ rest) → All P rest
all-later P [] rest all = all
all-later P (x ∷ done) rest all = all-later P done rest (All-tail P x (done ++ rest) all)

some-totals : (ways : List TripleWay) → 0 < length (totals_of ways)
some-totals ways = omega arith

module _ (limit : ℕ) (program : TypedProgram) (triples : List Triple) (fits : ProgramFits program) (own : All (FitsProgram program) triples) where
  pub triples-end : AreFunctional program.types → (done rest : List Triple) → triples ≡ done ++ rest → (lines : List ℕ) (ways : List TripleWay) →
      ReportsTriples limit program 1 done lines ways → CanEnd (ReportsAll limit program triples) lines
  triples-end every done rest split lines ways reports =
      let (l, w, more) = triples-told limit program fits every (1 + length done) rest
      (all-later (FitsProgram program) done rest (subst (All (FitsProgram program)) split own)) in
      let all = subst (λ (ts : List Triple). ReportsTriples limit program 1 ts (lines ++ l) (ways ++ w)) (sym split)
      (triples-joined limit program 1 done rest lines l ways w reports more) in
      let totals : List ℕ = totals_of (ways ++ w) in
      let count : 0 < length totals = some-totals (ways ++ w) in
      record {
        tail = l ++ totals;
        how = judged_ending (ways ++ w);
        allowed = subst (λ (output : List ℕ). ReportsAll limit program triples output (judged_ending (ways ++ w))) (append_assoc lines l totals)
            (totalled (lines ++ l) (ways ++ w) all);
        more = omega (arith, count, length-append l totals);
      }

  fields-end-by : (lines l : List ℕ) (ways : List FieldWay) → ReportsFields limit program.types (pointer_fields program.types) (lines ++ l) ways →
      (b : Bool) → list_all is_functional ways ≡ b → CanEnd (ReportsProgram limit program triples) lines
  fields-end-by lines l ways all false some =
      let count : 0 < length stopped_line = omega arith in
      record {
        tail = l ++ stopped_line;
        how = stopped_ending ways;
        allowed = subst (λ (output : List ℕ). ReportsProgram limit program triples output (stopped_ending ways)) (append_assoc lines l stopped_line)
            (stopped (lines ++ l) ways all some);
        more = omega (arith, count, length-append l stopped_line);
      }
  fields-end-by lines l ways all true good =
      let rest = triples-end (all-functional limit program.types (lines ++ l) ways all good) [] triples refl [] [] (no_triple 1) in
      let count : 0 < length rest.tail = rest.more in
      record {
        tail = l ++ rest.tail;
        how = rest.how;
        allowed = subst (λ (output : List ℕ). ReportsProgram limit program triples output rest.how) (append_assoc lines l rest.tail)
            (judged (lines ++ l) ways rest.tail rest.how all good rest.allowed);
        more = omega (arith, count, length-append l rest.tail);
      }

  -- the reports on the other fields can be told behind those on the first ones
  pub fields-more : (done rest : List FieldId) → pointer_fields program.types ≡ done ++ rest → (lines : List ℕ) (ways : List FieldWay) →
      ReportsFields limit program.types done lines ways →
      (l : List ℕ) × (all : List FieldWay) × ReportsFields limit program.types (pointer_fields program.types) (lines ++ l) all
  fields-more done rest split lines ways reports =
      let (l, w, more) = fields-told limit program.types (field-told limit program fits) rest in (
        l,
        ways ++ w,
        subst (λ (fs : List FieldId). ReportsFields limit program.types fs (lines ++ l) (ways ++ w)) (sym split)
            (fields-joined limit program.types done rest lines l ways w reports more),
      )

  pub fields-end : (done rest : List FieldId) → pointer_fields program.types ≡ done ++ rest → (lines : List ℕ) (ways : List FieldWay) →
      ReportsFields limit program.types done lines ways → CanEnd (ReportsProgram limit program triples) lines
  fields-end done rest split lines ways reports =
      let (l, all, whole) = fields-more done rest split lines ways reports in
      fields-end-by lines l all whole (list_all is_functional all) refl

-- nothing is written of fields that are told to be functional
pub functional-silent : (limit : ℕ) (types : List TypeEntry) (fs : List FieldId) (lines : List ℕ) (ways : List FieldWay) →
    ReportsFields limit types fs lines ways → list_all is_functional ways ≡ true → lines ≡ []
functional-silent limit types _ _ _ no_field good = refl
functional-silent limit types _ _ _ (next_field f fs way ways lines others report more) good =
    let both = first-good way ways good in
    let rest : others ≡ [] = functional-silent limit types fs others ways more both.1 in
    let here : lines ≡ [] = way-silent limit types f lines way report both.0 in
    ap (λ (ls : List ℕ). ls ++ others) here ∙ rest
