-- Something can be told of each start, and so of all that are left.
use Rattle.std.proofs.Common.{◌≡◌, ◌⊎◌, inl, inr, ◌+◌, ◌<◌, ◌≤◌, ◌++◌, ℕ, zero, suc, Some, List, [], ◌∷◌, length}
use Rattle.std.proofs.Common.{refl, sym, subst, arith, append_assoc, append-nil}
use Rattle.std.specs.Prelude.{All}
use Rattle.std.proofs.lemmas.List.Elements.{All-head, All-tail}
use Rattle.store_core.specs.Tables.{TypeEntry, VarEntry}
use Rattle.store_exec.specs.declared.triple.Triple.{Triple}
use Rattle.triple_judge.specs.Judging.{HasTriplePeak}
use Rattle.store_text.specs.StoreText.{store_text_of}
use Rattle.witness_store.specs.Alike.{AreFunctional}
use Rattle.pale_typed.specs.TypedPrograms.{TypedProgram}
use Rattle.pale_typed.specs.Fitting.{ProgramFits}
use Rattle.hoare_split.specs.Fitting.{FitsProgram}
use Rattle.triple_judge.proofs.ExistenceLemmas.{judged-somehow}
use Rattle.program_judge.proofs.StandingLemmas.{can-be-judged-by}
use Rattle.program_judge.specs.declared.meet_way.MeetWay.{MeetWay}
use Rattle.program_judge.specs.declared.meet_way.MeetWay.TheVariants as way
use Rattle.program_judge.specs.Starts.{asking}
use Rattle.program_judge.specs.Meets.{met_line, empty_line, ReportsMeet, met, empty, at_limit, ReportsMeets, no_triple, next_triple}
use Rattle.program_judge.specs.Meets.{IsStartWithin, AreStartsDecided}
use Rattle.program_judge.proofs.AskingLemmas.{asking-fits, valid-unmet, failing-meeting}

module _ (limit : ℕ) (program : TypedProgram) where
  pub meets-joined : (k : ℕ) (ts us : List Triple) (l m : List ℕ) (v w : List MeetWay) → ReportsMeets limit program k ts l v →
      ReportsMeets limit program (k + length ts) us m w → ReportsMeets limit program k (ts ++ us) (l ++ m) (v ++ w)
  meets-joined _ _ us _ m _ w (no_triple k) rest =
      let e : k + 0 ≡ k = omega arith in
      subst (λ (n : ℕ). ReportsMeets limit program n us m w) e rest
  meets-joined _ _ us _ m _ w (next_triple k t ts how ways lines others report more) rest =
      let number : k + suc (length ts) ≡ suc k + length ts = omega arith in
      let behind = subst (λ (n : ℕ). ReportsMeets limit program n us m w) number rest in
      subst (λ (all : List ℕ). ReportsMeets limit program k (t ∷ (ts ++ us)) all (how ∷ (ways ++ w))) (sym (append_assoc lines others m))
      (next_triple k t (ts ++ us) how (ways ++ w) lines (others ++ m) report (meets-joined (suc k) ts us others m ways w more behind))

  -- a triple more
  pub meet-more : (k : ℕ) (ts : List Triple) (l : List ℕ) (v : List MeetWay) (t : Triple) (lines : List ℕ) (how : MeetWay) →
      ReportsMeets limit program k ts l v → ReportsMeet limit program (k + length ts) t lines how →
      ReportsMeets limit program k (ts ++ t ∷ []) (l ++ lines) (v ++ how ∷ [])
  meet-more k ts l v t lines how before report =
      meets-joined k ts (t ∷ []) l lines v (how ∷ []) before
      (subst (λ (all : List ℕ). ReportsMeets limit program (k + length ts) (t ∷ []) all (how ∷ [])) (append-nil lines)
      (next_triple (k + length ts) t [] how [] lines [] report (no_triple (suc (k + length ts)))))

  module _ (fits : ProgramFits program) (every : AreFunctional program.types) where
    pub meet-told : (k : ℕ) (t : Triple) → FitsProgram program t → (lines : List ℕ) × (how : MeetWay) × ReportsMeet limit program k t lines how
    meet-told k t own =
        elim (judged-somehow program.types own.entry.vars (asking t) fits.types every (can-be-judged-by program (asking t) (asking-fits program t own)))
        as (λ _. (lines : List ℕ) × (how : MeetWay) × ReportsMeet limit program k t lines how) [
          | inl is ↦ (empty_line k own.entry.proc.name t.line, way.Empty, empty own.entry own.there (valid-unmet program.types own.entry.vars t is))
          | inr (s, why, line, least) ↦ (
            met_line k own.entry.proc.name t.line ++ store_text_of program.types own.entry.vars s,
            way.Met,
            met own.entry s own.there (failing-meeting program.types own.entry.vars t s why line least),
          )
        ]

    pub meets-told : (k : ℕ) (ts : List Triple) → All (FitsProgram program) ts →
        (lines : List ℕ) × (ways : List MeetWay) × ReportsMeets limit program k ts lines ways
    meets-told k [] own = ([], [], no_triple k)
    meets-told k (t ∷ ts) own =
        let (lines, how, report) = meet-told k t (All-head (FitsProgram program) t ts own) in
        let (others, ways, more) = meets-told (suc k) ts (All-tail (FitsProgram program) t ts own) in
        (lines ++ others, how ∷ ways, next_triple k t ts how ways lines others report more)

    all-later : (done rest : List Triple) → All (FitsProgram program) (done ++ rest) → All (FitsProgram program) rest
    all-later [] rest all = all
    all-later (t ∷ done) rest all = all-later done rest (All-tail (FitsProgram program) t (done ++ rest) all)

    pub meets-rest : (triples done rest : List Triple) (lines : List ℕ) (ways : List MeetWay) → All (FitsProgram program) triples →
        triples ≡ done ++ rest → ReportsMeets limit program 1 done lines ways →
        (more : List ℕ) × (others : List MeetWay) × ReportsMeets limit program 1 triples (lines ++ more) (ways ++ others)
    meets-rest triples done rest lines ways own split reports =
        let (more, others, told) = meets-told (1 + length done) rest (all-later done rest (subst (All (FitsProgram program)) split own)) in (
          more,
          others,
          subst (λ (ts : List Triple). ReportsMeets limit program 1 ts (lines ++ more) (ways ++ others)) (sym split)
              (meets-joined 1 done rest lines more ways others reports told),
        )

-- ---- within a start's own Peak

module _ (greatest : (types : List TypeEntry) (vars : List VarEntry) (t : Triple) → (p : ℕ) × HasTriplePeak types vars t p) (limit : ℕ)
    (program : TypedProgram) where
  start-decided : (k : ℕ) (t : Triple) (lines : List ℕ) (how : MeetWay) → ReportsMeet limit program k t lines how → IsStartWithin limit program t →
      (Some how ≡ Some way.Met) ⊎ (Some how ≡ Some way.Empty)
  start-decided k t _ _ (met e s there least) within = inl refl
  start-decided k t _ _ (empty e there none) within = inr refl
  start-decided k t _ _ (at_limit e there over) within =
      let (p, peak) = greatest program.types e.vars (asking t) in
      let above : limit < p = over p peak in
      let below : p ≤ limit = within e p there peak in
      absurd (omega (arith, above, below))

  pub starts-decided : (k : ℕ) (ts : List Triple) (lines : List ℕ) (ways : List MeetWay) → ReportsMeets limit program k ts lines ways →
      AreStartsDecided limit program ts ways
  starts-decided _ _ _ _ (no_triple k) i t at within = absurd (cc)
  starts-decided _ _ _ _ (next_triple k u us how ways lines others report rest) zero t at within =
      let same : u ≡ t = cc in
      start-decided k t lines how (subst (λ (x : Triple). ReportsMeet limit program k x lines how) same report) within
  starts-decided _ _ _ _ (next_triple k u us how ways lines others report rest) (suc i) t at within = starts-decided (suc k) us others ways rest i t at within
