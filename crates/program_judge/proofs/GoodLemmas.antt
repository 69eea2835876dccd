-- A program whose report ends well has valid triples alone.
use Rattle.std.proofs.Common.{◌≡◌, ℕ, zero, suc, Bool, true, false, cond, List, [], ◌∷◌, slice_get, Some, refl, sym, ◌∙◌, subst}
use Rattle.std.specs.List.{list_any, list_all}
use Rattle.std.proofs.lemmas.Bool.{false≢true}
use Rattle.store_exec.specs.declared.triple.Triple.{Triple}
use Rattle.pale_typed.specs.declared.typed.ProcEntry.{ProcEntry}
use Rattle.pale_typed.specs.TypedPrograms.{TypedProgram}
use Rattle.triple_judge.specs.Judging.{IsValid}
use Rattle.program_judge.specs.declared.ways.TripleWay.{TripleWay}
use Rattle.program_judge.specs.declared.ways.TripleWay.TheVariants as tripled
use Rattle.program_judge.specs.declared.ways.Ending.{Ending}
use Rattle.program_judge.specs.declared.ways.Ending.TheVariants as ending
use Rattle.program_judge.specs.Reports.{ReportsTriple, valid, invalid, triple_at_limit, ReportsTriples, no_triple, next_triple, ReportsAll, totalled}
use Rattle.program_judge.specs.Reports.{ReportsProgram, stopped, judged}
use Rattle.program_judge.specs.Reports.{is_valid, is_invalid, is_at_limit, is_ambiguous}

-- where none is invalid and none at the limit, all are valid
no-others : (ways : List TripleWay) → list_any is_invalid ways ≡ false → list_any is_at_limit ways ≡ false → list_all is_valid ways ≡ true
no-others [] a b = refl
no-others (tripled.Valid ∷ ways) a b = no-others ways a b
no-others (tripled.Invalid ∷ ways) a b = absurd (false≢true (sym a))
no-others (tripled.Limit ∷ ways) a b = absurd (false≢true (sym b))

-- the first of them is, and so are the others
way-good : (way : TripleWay) (ways : List TripleWay) → list_all is_valid (way ∷ ways) ≡ true → (is_valid way ≡ true) × (list_all is_valid ways ≡ true)
way-good tripled.Valid ways good = (refl, good)
way-good tripled.Invalid ways good = absurd (false≢true good)
way-good tripled.Limit ways good = absurd (false≢true good)

module _ (limit : ℕ) (program : TypedProgram) where
  over-entry : (t : Triple) (d e : ProcEntry) → slice_get program.procs t.proc ≡ Some d → slice_get program.procs t.proc ≡ Some e →
      IsValid program.types d.vars t → IsValid program.types e.vars t
  over-entry t d e one other is =
      let both : Some d ≡ Some e = sym one ∙ other in
      let same : d ≡ e = cc in
      subst (λ (x : ProcEntry). IsValid program.types x.vars t) same is

  first-valid : (k : ℕ) (t : Triple) (way : TripleWay) (lines : List ℕ) (e : ProcEntry) → ReportsTriple limit program k t lines way →
      is_valid way ≡ true → slice_get program.procs t.proc ≡ Some e → IsValid program.types e.vars t
  first-valid k t _ _ e (valid d at is) good there = over-entry t d e at there is
  first-valid k t _ _ e (invalid d s why at there_d least) good there = absurd (false≢true good)
  first-valid k t _ _ e (triple_at_limit d at over) good there = absurd (false≢true good)

  all-valid : (k : ℕ) (ts : List Triple) (lines : List ℕ) (ways : List TripleWay) → ReportsTriples limit program k ts lines ways →
      list_all is_valid ways ≡ true → (i : ℕ) (t : Triple) (e : ProcEntry) → slice_get ts i ≡ Some t → slice_get program.procs t.proc ≡ Some e →
      IsValid program.types e.vars t
  all-valid _ _ _ _ (no_triple k) good i t e at there = absurd (cc)
  all-valid _ _ _ _ (next_triple k u us way ways lines others report rest) good zero t e at there =
      let same : u ≡ t = cc in
      first-valid k t way lines e (subst (λ (x : Triple). ReportsTriple limit program k x lines way) same report) (way-good way ways good).0 there
  all-valid _ _ _ _ (next_triple k u us way ways lines others report rest) good (suc i) t e at there =
      all-valid (suc k) us others ways rest (way-good way ways good).1 i t e at there

  -- how an ending is picked
  not-stopped : (b : Bool) → cond b ending.Ambiguous ending.Limit ≡ ending.Good → ⊥
  not-stopped true e = cc
  not-stopped false e = cc

  none-invalid : (a b : Bool) → cond a ending.Bad (cond b ending.Limit ending.Good) ≡ ending.Good → (a ≡ false) × (b ≡ false)
  none-invalid true b e = absurd (cc)
  none-invalid false true e = absurd (cc)
  none-invalid false false e = (refl, refl)

  all-good : (triples : List Triple) (output : List ℕ) (how : Ending) → ReportsAll limit program triples output how → how ≡ ending.Good →
      (i : ℕ) (t : Triple) (e : ProcEntry) → slice_get triples i ≡ Some t → slice_get program.procs t.proc ≡ Some e → IsValid program.types e.vars t
  all-good triples _ _ (totalled lines told reports) good i t e at there =
      let both = none-invalid (list_any is_invalid told) (list_any is_at_limit told) good in
      all-valid 1 triples lines told reports (no-others told both.0 both.1) i t e at there

  pub good-valid : (triples : List Triple) (output : List ℕ) (how : Ending) → ReportsProgram limit program triples output how → how ≡ ending.Good →
      (i : ℕ) (t : Triple) (e : ProcEntry) → slice_get triples i ≡ Some t → slice_get program.procs t.proc ≡ Some e → IsValid program.types e.vars t
  good-valid triples _ _ (stopped lines ways fields some) good i t e at there = absurd (not-stopped (list_any is_ambiguous ways) good)
  good-valid triples _ _ (judged lines ways output how fields all rest) good i t e at there = all-good triples output how rest good i t e at there
