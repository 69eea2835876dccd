-- Reports one after the other.
use Rattle.std.proofs.Common.{◌≡◌, ◌+◌, ◌++◌, ℕ, suc, List, [], ◌∷◌, length, sym, subst, arith, append_assoc, append-nil}
use Rattle.store_core.specs.declared.ids.FieldId.{FieldId}
use Rattle.store_core.specs.Tables.{TypeEntry}
use Rattle.store_exec.specs.declared.triple.Triple.{Triple}
use Rattle.pale_typed.specs.TypedPrograms.{TypedProgram}
use Rattle.program_judge.specs.declared.ways.FieldWay.{FieldWay}
use Rattle.program_judge.specs.declared.ways.TripleWay.{TripleWay}
use Rattle.program_judge.specs.Reports.{ReportsField, ReportsFields, no_field, next_field}
use Rattle.program_judge.specs.Reports.{ReportsTriple, ReportsTriples, no_triple, next_triple}

-- ---- fields

module _ (limit : ℕ) (types : List TypeEntry) where
  pub fields-joined : (fs gs : List FieldId) (l m : List ℕ) (v w : List FieldWay) → ReportsFields limit types fs l v → ReportsFields limit types gs m w →
      ReportsFields limit types (fs ++ gs) (l ++ m) (v ++ w)
  fields-joined _ gs _ m _ w no_field rest = rest
  fields-joined _ gs _ m _ w (next_field f fs way ways lines others report more) rest =
      subst (λ (all : List ℕ). ReportsFields limit types (f ∷ (fs ++ gs)) all (way ∷ (ways ++ w))) (sym (append_assoc lines others m))
      (next_field f (fs ++ gs) way (ways ++ w) lines (others ++ m) report (fields-joined fs gs others m ways w more rest))

  pub one-field : (f : FieldId) (lines : List ℕ) (way : FieldWay) → ReportsField limit types f lines way →
      ReportsFields limit types (f ∷ []) lines (way ∷ [])
  one-field f lines way report =
      subst (λ (all : List ℕ). ReportsFields limit types (f ∷ []) all (way ∷ [])) (append-nil lines) (next_field f [] way [] lines [] report no_field)

  -- a field more
  pub field-more : (fs : List FieldId) (l : List ℕ) (v : List FieldWay) (f : FieldId) (lines : List ℕ) (way : FieldWay) → ReportsFields limit types fs l v →
      ReportsField limit types f lines way → ReportsFields limit types (fs ++ f ∷ []) (l ++ lines) (v ++ way ∷ [])
  field-more fs l v f lines way before report = fields-joined fs (f ∷ []) l lines v (way ∷ []) before (one-field f lines way report)

-- ---- triples

module _ (limit : ℕ) (program : TypedProgram) where
  pub triples-joined : (k : ℕ) (ts us : List Triple) (l m : List ℕ) (v w : List TripleWay) → ReportsTriples limit program k ts l v →
      ReportsTriples limit program (k + length ts) us m w → ReportsTriples limit program k (ts ++ us) (l ++ m) (v ++ w)
  triples-joined _ _ us _ m _ w (no_triple k) rest =
      let e : k + 0 ≡ k = omega arith in
      subst (λ (n : ℕ). ReportsTriples limit program n us m w) e rest
  triples-joined _ _ us _ m _ w (next_triple k t ts way ways lines others report more) rest =
      let number : k + suc (length ts) ≡ suc k + length ts = omega arith in
      let behind = subst (λ (n : ℕ). ReportsTriples limit program n us m w) number rest in
      subst (λ (all : List ℕ). ReportsTriples limit program k (t ∷ (ts ++ us)) all (way ∷ (ways ++ w))) (sym (append_assoc lines others m))
      (next_triple k t (ts ++ us) way (ways ++ w) lines (others ++ m) report (triples-joined (suc k) ts us others m ways w more behind))

  pub one-triple : (k : ℕ) (t : Triple) (lines : List ℕ) (way : TripleWay) → ReportsTriple limit program k t lines way →
      ReportsTriples limit program k (t ∷ []) lines (way ∷ [])
  one-triple k t lines way report =
      subst (λ (all : List ℕ). ReportsTriples limit program k (t ∷ []) all (way ∷ [])) (append-nil lines)
      (next_triple k t [] way [] lines [] report (no_triple (suc k)))

  -- a triple more
  pub triple-more : (k : ℕ) (ts : List Triple) (l : List ℕ) (v : List TripleWay) (t : Triple) (lines : List ℕ) (way : TripleWay) →
      ReportsTriples limit program k ts l v → ReportsTriple limit program (k + length ts) t lines way →
      ReportsTriples limit program k (ts ++ t ∷ []) (l ++ lines) (v ++ way ∷ [])
  triple-more k ts l v t lines way before report =
      triples-joined k ts (t ∷ []) l lines v (way ∷ []) before (one-triple (k + length ts) t lines way report)
