-- The first site that is satisfied has the cause and line with which the store fails.
use Rattle.std.proofs.Common.{◌≡◌, ◌⊎◌, inl, inr, ℕ, zero, suc, ◌<◌, ◌≤◌, List, [], ◌∷◌, ◌++◌, length, slice_get, All, Option, Some, None, refl, sym, ap, ◌∙◌}
use Rattle.std.proofs.Common.{subst, arith}
use Rattle.std.proofs.lemmas.List.Elements.{All-head, All-tail}
use Rattle.gta_theory.specs.Assignments.{Assignment}
use Rattle.ws2s_forms.proofs.LawsLemmas.{decided}
use Rattle.store_core.specs.Tables.{TypeEntry, VarEntry}
use Rattle.store_core.specs.Stores.{StoreMap}
use Rattle.store_exec.specs.declared.cause.Cause.{Cause}
use Rattle.store_exec.specs.declared.outcome.Outcome.TheVariants as outcome
use Rattle.store_exec.specs.declared.triple.Cut.{Cut}
use Rattle.store_exec.specs.declared.triple.Triple.{Triple}
use Rattle.store_exec.specs.Cuts.{AtCut}
use Rattle.store_exec.specs.Failing.{StartHolds, Meets, Fails}
use Rattle.store_exec.specs.Runs.{RunsCode}
use Rattle.tree_encode.specs.Tracks.{track_count}
use Rattle.tree_encode.proofs.TracksLemmas.{mapped}
use Rattle.site_list.specs.declared.site.Site.{Site}
use Rattle.site_list.specs.States.{Check}
use Rattle.site_list.specs.Triples.{walked, first_bound, site_of, passed, site_formula_at}
use Rattle.triple_meaning.specs.Sites.Places.{Comes, NoneComes, ComesFirst}
use Rattle.triple_meaning.specs.Sites.Seeing.{IsOver, HasRoom, AreDefined}
use Rattle.triple_meaning.specs.Sites.Ending.{IsSettled}
use Rattle.triple_meaning.proofs.sites.FirstsLemmas.{some-or-none}
use Rattle.triple_meaning.proofs.sites.TriplesLemmas.{fails-first, passes-all, first-fails}
use Rattle.triple_meaning.proofs.triples.JoinLemmas.{assertions-meant, cuts-meant}
use Rattle.triple_meaning.specs.Tracks.Defining.{IsWithMade}
use Rattle.triple_meaning.proofs.tracks.ShortLemmas.{less-or}
use Rattle.triple_meaning.proofs.tracks.TripleLemmas.{walked-kept}
use Rattle.triple_meaning.proofs.tracks.BindingLemmas.{values-there}
use Rattle.triple_meaning.specs.Failing.Satisfying.{IsPosed, IsSatisfiedAt, IsFirstSatisfied}
use Rattle.triple_meaning.proofs.failing.OverLemmas.{over-others}
use Rattle.triple_meaning.proofs.failing.SiteLemmas.{satisfied-parts, satisfied-place, parts-hold, site-told}

-- ---- the first number of which something is so

-- the first below a number, or none is
abbrev FirstOrNone : (ℕ → Type 0) → ℕ → Type 0
FirstOrNone P n = ((k : ℕ) × (k < n) × P k × ((j : ℕ) → j < k → P j → ⊥)) ⊎ ((j : ℕ) → j < n → P j → ⊥)

search-first : (P : ℕ → Type 0) → ((k : ℕ) → P k ⊎ (P k → ⊥)) → (n : ℕ) → FirstOrNone P n
search-first P decide zero = inr (λ j less so. let k : ⊥ = omega (arith, less) in k)
search-first P decide (suc n) = elim (search-first P decide n) as (λ _. FirstOrNone P (suc n)) [
  | inl found ↦ inl (found.0, omega (arith, found.1), found.2, found.3)
  | inr none ↦ elim (decide n) as (λ _. FirstOrNone P (suc n)) [
    | inl holds ↦ inl (n, omega arith, holds, none)
    | inr lacks ↦ inr (λ j less so. elim (less-or j n) as (λ _. ⊥) [
      | inl before ↦ none j before so
      | inr from ↦ (let same : j ≡ n = omega (arith, less, from) in lacks (subst P same so))
    ])
  ]
]

-- ---- places in a list

at-middle : (before after : List Check) (c : Check) → slice_get (before ++ c ∷ after) (length before) ≡ Some c
at-middle [] after c = refl
at-middle (d ∷ before) after c = at-middle before after c

-- where none comes before, a place at which one comes stands behind
none-there : (next : ℕ) (a : Assignment) (before rest : List Check) (k : ℕ) (c : Check) → NoneComes next a before → k < length before →
    slice_get (before ++ rest) k ≡ Some c → Comes next a c → ⊥
none-there next a [] rest k c none less there comes = let j : ⊥ = omega (arith, less) in j
none-there next a (d ∷ before) rest zero c none less there comes =
    let same : d ≡ c = cc in
    All-head (λ (e : Check). Comes next a e → ⊥) d before none (subst (λ e. Comes next a e) (sym same) comes)
none-there next a (d ∷ before) rest (suc k) c none less there comes =
    none-there next a before rest k c (All-tail (λ (e : Check). Comes next a e → ⊥) d before none) (omega (arith, less)) there comes

-- no place that is there has it, where none has
none-at : (P : Check → Type 0) (cs : List Check) (k : ℕ) (c : Check) → All (λ (e : Check). P e → ⊥) cs → slice_get cs k ≡ Some c → P c → ⊥
none-at P [] k c none is so = absurd (cc)
none-at P (d ∷ cs) zero c none is so =
    let same : d ≡ c = cc in
    All-head (λ (e : Check). P e → ⊥) d cs none (subst P (sym same) so)
none-at P (d ∷ cs) (suc k) c none is so = none-at P cs k c (All-tail (λ (e : Check). P e → ⊥) d cs none) is so

-- a site of this cause and line
abbrev site_with : Cause → ℕ → Site
site_with why line = record { cause = why; line = line }

module _ (types : List TypeEntry) (vars : List VarEntry) (t : Triple) (posed : IsPosed types vars t) (a : Assignment) (s : StoreMap)
    (over : IsOver types vars a s) where
  abbrev next : ℕ
  next = first_bound types vars (walked types vars t)

  abbrev checks : List Check
  checks = (walked types vars t).checks

  abbrev IsSite : ℕ → Type 0
  IsSite k = IsSatisfiedAt types vars t a k

  -- whether a site is satisfied
  site-decided : (k : ℕ) → IsSite k ⊎ (IsSite k → ⊥)
  site-decided k = by (slice_get (walked types vars t).checks k) refl
    where
      by : (o : Option Check) → slice_get (walked types vars t).checks k ≡ o → IsSatisfiedAt types vars t a k ⊎ (IsSatisfiedAt types vars t a k → ⊥)
      by None is = inr (λ h.
          let (c, there) = satisfied-place types vars t posed a k h in
          let none : None ≡ Some c = sym is ∙ there in
          let j : ⊥ = cc in j)
      by (Some c) is =
          let parts = satisfied-parts types vars t posed a k c is in
          let formula = parts-hold types vars t posed a c in
          elim (decided (site_formula_at types vars t (walked types vars t) (first_bound types vars (walked types vars t)) c) a over.finite)
          as (λ _. IsSatisfiedAt types vars t a k ⊎ (IsSatisfiedAt types vars t a k → ⊥)) [
            | inl holds ↦ inl (parts.1 (formula.0 holds))
            | inr lacks ↦ inr (λ h. lacks (formula.1 (parts.0 h)))
          ]

  -- what comes first is at the place behind those before it
  first-place : (b : Assignment) (why : Cause) (line : ℕ) (first : ComesFirst next b checks why line) →
      slice_get (walked types vars t).checks (length first.before) ≡ Some first.check
  first-place b why line first = ap (λ cs. slice_get cs (length first.before)) first.order ∙ at-middle first.before first.after first.check

  -- ---- other values of made tracks

  module _ (b : Assignment) (others : IsWithMade types vars (walked types vars t) a b)
      (defined : AreDefined (first_bound types vars (walked types vars t)) b (walked types vars t)) where
    over-made : IsOver types vars b s
    over-made = over-others types vars a b s (length (walked types vars t).defined) over others

    made-room : HasRoom types vars (first_bound types vars (walked types vars t)) (walked types vars t)
    made-room = omega arith

    fails-made : (why : Cause) (line : ℕ) → Fails types vars t s why line → ComesFirst next b checks why line
    fails-made why line failing =
        fails-first types vars (assertions-meant types vars) t (cuts-meant types vars t posed.fits posed.cuts) posed.fits.code b s over-made next made-room
        defined why line failing

    passes-made : (place : ℕ) (last : StoreMap) (cut : Cut) → RunsCode types t.code s (outcome.End place last) → slice_get t.cuts place ≡ Some cut →
        AtCut types vars cut last None → NoneComes next b checks
    passes-made place last cut runs there right =
        passes-all types vars (assertions-meant types vars) t (cuts-meant types vars t posed.fits posed.cuts) posed.fits.code b s over-made next made-room
        defined place last cut runs there right

    first-made : (why : Cause) (line : ℕ) → IsSettled types vars t s → ComesFirst next b checks why line → Fails types vars t s why line
    first-made why line settled comes =
        first-fails types vars (assertions-meant types vars) t (cuts-meant types vars t posed.fits posed.cuts) posed.fits.code b s over-made next made-room
        defined why line settled comes

    -- the place that comes first is a satisfied site
    first-site : (why : Cause) (line : ℕ) → StartHolds types vars t.start s → (first : ComesFirst next b checks why line) → IsSite (length first.before)
    first-site why line start first =
        (site-told types vars t posed a s over (length first.before) first.check (first-place b why line first)).1 (start, (b, others, defined, first.comes))

  -- ---- failing, to the first site

  module _ (start : StartHolds types vars t.start s) (why : Cause) (line : ℕ) (failing : Fails types vars t s why line) where
    -- the least satisfied site is the place that comes first with its own values
    least-first : (k : ℕ) → IsSite k → ((j : ℕ) → j < k → IsSite j → ⊥) → IsFirstSatisfied types vars t a why line
    least-first k here before =
        let (c, there) = satisfied-place types vars t posed a k here in
        let (holds, (b, others, defined, comes)) = (site-told types vars t posed a s over k c there).0 here in
        let first = fails-made b others defined why line failing in
        let n : ℕ = length first.before in
        let site = first-site b others defined why line start first in
        let there_first = ap (λ cs. slice_get cs k) (sym first.order) ∙ there in
        let no_earlier : n ≤ k = elim (less-or k n) as (λ _. n ≤ k) [
          | inl less ↦ absurd (none-there next b first.before (first.check ∷ first.after) k c first.none less there_first comes)
          | inr from ↦ from
        ] in
        let no_later : k ≤ n = elim (less-or n k) as (λ _. k ≤ n) [
          | inl less ↦ absurd (before n less site)
          | inr from ↦ from
        ] in
        let same : n ≡ k = omega (arith, no_earlier, no_later) in
        let place = subst (λ m. slice_get (walked types vars t).checks m ≡ Some first.check) same (first-place b why line first) in
        record {
          site = k;
          satisfied = here;
          before = before;
          is = mapped site_of (walked types vars t).checks k first.check place
              ∙ (λ i. Some (record { cause = first.is i; line = first.at_line i }));
        }

    pub failing-first : IsFirstSatisfied types vars t a why line
    failing-first =
        let (b, others, defined) =
        values-there next (walked types vars t).defined (track_count types vars) (walked-kept types vars t posed.fits).made (omega arith) a over.finite in
        let first = fails-made b others defined why line failing in
        let site = first-site b others defined why line start first in
        elim (search-first IsSite site-decided (suc (length first.before))) as (λ _. IsFirstSatisfied types vars t a why line) [
          | inl found ↦ least-first found.0 found.2 found.3
          | inr none ↦ absurd (none (length first.before) (omega arith) site)
        ]

  -- ---- a satisfied site

  module _ (site : ℕ) (satisfied : IsSite site) where
    place : (c : Check) × (slice_get (walked types vars t).checks site ≡ Some c)
    place = satisfied-place types vars t posed a site satisfied

    pub site-start : StartHolds types vars t.start s
    site-start = ((site-told types vars t posed a s over site place.0 place.1).0 satisfied).0

    pub site-meets : Meets types vars t s
    site-meets = record { well_formed = over.well; start = site-start }

    pub site-refutes : (at : ℕ) (last : StoreMap) (cut : Cut) → RunsCode types t.code s (outcome.End at last) → slice_get t.cuts at ≡ Some cut →
        AtCut types vars cut last None → ⊥
    site-refutes at last cut runs there right =
        let (c, is) = place in
        let (holds, (b, others, defined, comes)) = (site-told types vars t posed a s over site c is).0 satisfied in
        none-at (λ (e : Check). Comes (first_bound types vars (walked types vars t)) b e) (walked types vars t).checks site c
        (passes-made b others defined at last cut runs there right) is comes

    pub site-fails : IsSettled types vars t s → (why : Cause) × (line : ℕ) × Fails types vars t s why line
    site-fails settled =
        let (c, is) = place in
        let (holds, (b, others, defined, comes)) = (site-told types vars t posed a s over site c is).0 satisfied in
        let finite = (over-made b others defined).finite in
        elim (some-or-none next b finite (walked types vars t).checks) as (λ _. (why : Cause) × (line : ℕ) × Fails types vars t s why line) [
          | inl none ↦ absurd (none-at (λ (e : Check). Comes next b e) (walked types vars t).checks site c none is comes)
          | inr found ↦ (found.0, found.1, first-made b others defined found.0 found.1 settled found.2)
        ]

  -- two firsts are one
  pub first-fails_so : (why : Cause) (line : ℕ) → IsFirstSatisfied types vars t a why line → IsSettled types vars t s → Fails types vars t s why line
  first-fails_so why line one settled =
      let (w, n, failing) = site-fails one.site one.satisfied settled in
      let other = failing-first (site-start one.site one.satisfied) w n failing in
      let no_earlier : one.site ≤ other.site = elim (less-or other.site one.site) as (λ _. one.site ≤ other.site) [
        | inl less ↦ absurd (one.before other.site less other.satisfied)
        | inr from ↦ from
      ] in
      let no_later : other.site ≤ one.site = elim (less-or one.site other.site) as (λ _. other.site ≤ one.site) [
        | inl less ↦ absurd (other.before one.site less one.satisfied)
        | inr from ↦ from
      ] in
      let same : other.site ≡ one.site = omega (arith, no_earlier, no_later) in
      let found : slice_get (passed types vars t) one.site ≡ Some (site_with w n) =
      subst (λ k. slice_get (passed types vars t) k ≡ Some (site_with w n)) same other.is in
      let both : Some (site_with w n) ≡ Some (site_with why line) = sym found ∙ one.is in
      let is : site_with w n ≡ site_with why line = cc in
      subst (λ x. Fails types vars t s x line) (ap (λ (x : Site). x.cause) is)
      (subst (λ m. Fails types vars t s w m) (ap (λ (x : Site). x.line) is) failing)
