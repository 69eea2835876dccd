-- Every triple is judged somehow: it is valid, or a least store shows that it isn't.
use Rattle.std.proofs.Common.{◌≡◌, ◌≢◌, ◌⊎◌, inl, inr, ◌<◌, ◌≤◌, ℕ, zero, suc, List, [], ◌∷◌, length, Option, Some, None, Contains, AllPairs, refl, sym, ap}
use Rattle.std.proofs.Common.{◌∙◌, subst, arith}
use Rattle.std.proofs.lemmas.Bool.{cases_lt}
use Rattle.std.proofs.lemmas.List.Kept.{AllPairs-cons}
use Rattle.std.proofs.lemmas.Option.{same_Some, slice_get_within}
use Rattle.gta_theory.specs.Assignments.{Assignment, Covers}
use Rattle.gta_theory.specs.Weights.{weight}
use Rattle.gta_theory.proofs.AssignmentsLemmas.{Covers-finite}
use Rattle.gta_theory.proofs.ListsLemmas.{All-from_contains}
use Rattle.ws2s_core.specs.declared.formula.Formula.{Formula}
use Rattle.ws2s_core.specs.Satisfaction.{WSat}
use Rattle.ws2s_least.specs.Lightest.{HasNoModel, IsLightestFor}
use Rattle.ws2s_least.proofs.LightestLemmas.{lightest-exists}
use Rattle.store_core.specs.Tables.{TypeEntry, VarEntry, IsTypeTable}
use Rattle.store_core.specs.Stores.{StoreMap}
use Rattle.store_exec.specs.declared.cause.Cause.{Cause}
use Rattle.store_exec.specs.declared.triple.Triple.{Triple}
use Rattle.witness_store.proofs.ExistenceLemmas.{set_store}
use Rattle.routing_walks.proofs.GatheringLemmas.{Contains-none, Contains-here, Contains-there, Contains-cases}
use Rattle.tree_encode.specs.Tracks.{track_at, variants_from}
use Rattle.tree_store.specs.Weighing.{AreVariantTracks}
use Rattle.tree_store.proofs.WeighingLemmas.{weight-cells}
use Rattle.tree_store.proofs.ExistenceLemmas.{variant-listed, store_of_finite}
use Rattle.witness_store.specs.Alike.{AreFunctional}
use Rattle.witness_store.proofs.ListsLemmas.{present}
use Rattle.witness_store.proofs.VariantsLemmas.{listed-track}
use Rattle.witness_store.proofs.PointersLemmas.{IsStoreOf-alike}
use Rattle.witness_store.proofs.FunctionalLemmas.{IsWellFormed-set}
use Rattle.site_list.specs.Sites.{sites_of}
use Rattle.site_list.specs.Triples.{site_formula}
use Rattle.triple_meaning.specs.Failing.Satisfying.{IsSatisfiedAt}
use Rattle.triple_judge.specs.Searching.{IsNowhere}
use Rattle.triple_judge.specs.Judging.{IsValid, IsLeastFailing}
use Rattle.triple_judge.specs.Standing.{CanBeJudged}
use Rattle.triple_judge.proofs.MeaningLemmas.{satisfied-meets, satisfied-fails}
use Rattle.triple_judge.proofs.FailingLemmas.{lays-out, over, told, valid-from}

-- ---- the tracks of the variants

abbrev pub tracks-to : ℕ → List ℕ
tracks-to zero = []
tracks-to (suc n) = n ∷ tracks-to n

to-below : (n t : ℕ) → Contains (tracks-to n) t → t < n
to-below zero t h = absurd (Contains-none t h)
to-below (suc n) t h = elim (Contains-cases n (tracks-to n) t h) [
  | inl same ↦ omega (arith, same)
  | inr later ↦ (let less = to-below n t later in omega (arith, less))
]

below-to : (n t : ℕ) → t < n → Contains (tracks-to n) t
below-to zero t below = absurd (omega (arith, below))
below-to (suc n) t below = elim (cases_lt t n) [
  | inl less ↦ Contains-there n (tracks-to n) t (below-to n t less)
  | inr more ↦
      (let same : t ≡ n = omega (arith, below, more) in subst (λ (u : ℕ). Contains (n ∷ tracks-to n) u) (sym same) (Contains-here n (tracks-to n)))
]

apart-to : (n : ℕ) → AllPairs (λ t u. t ≢ u) (tracks-to n)
apart-to zero = λ i j d less inside. absurd (omega (arith, inside))
apart-to (suc n) =
    AllPairs-cons (λ t u. t ≢ u) n (tracks-to n)
    (All-from_contains (λ u. n ≢ u) (tracks-to n) (λ u h same. let less = to-below n u h in absurd (omega (arith, less, same)))) (apart-to n)

pub variant-tracks : (types : List TypeEntry) → AreVariantTracks types (tracks-to (length (variants_from 0 types)))
variant-tracks types = record {
  once = apart-to (length (variants_from 0 types));
  exactly = λ t. (
    (λ h.
        let (v, there) = present (variants_from 0 types) t (to-below (length (variants_from 0 types)) t h) in
        (v, listed-track types t v there)),
    (λ h. below-to (length (variants_from 0 types)) t (slice_get_within (variants_from 0 types) t h.0 (variant-listed types h.0 (track_at t) h.1))),
  );
}

-- ---- the lightest sets of all sites

module _ (formulas : ℕ → Option Formula) (tracks : List ℕ) where
  -- the sets satisfy the formula of a site, and none that satisfy that of a site before n are lighter
  pub record Best (n : ℕ) : Type 0 where
    pub site : ℕ
    pub formula : Formula
    pub depth : ℕ
    pub sets : Assignment
    pub there : formulas site ≡ Some formula
    pub covers : Covers depth sets
    pub satisfies : WSat formula sets
    pub least : (k : ℕ) (f : Formula) (m : ℕ) (b : Assignment) → k < n → formulas k ≡ Some f → Covers m b → WSat f b →
        weight tracks depth sets ≤ weight tracks m b

  abbrev pub NoneBefore : ℕ → Type 0
  NoneBefore n = (k : ℕ) → k < n → IsNowhere formulas k

  last : (k n : ℕ) → k < suc n → (k < n) ⊎ (k ≡ n)
  last k n below = elim (cases_lt k n) as (λ _. (k < n) ⊎ (k ≡ n)) [ inl less ↦ inl less | inr more ↦ inr (omega (arith, below, more)) ]

  -- nothing satisfies the formula of the next site
  pass : (n : ℕ) → NoneBefore n ⊎ Best n → IsNowhere formulas n → NoneBefore (suc n) ⊎ Best (suc n)
  pass n (inl none) nowhere = inl (λ k below. elim (last k n below) [
    | inl less ↦ none k less
    | inr same ↦ subst (IsNowhere formulas) (sym same) nowhere
  ])
  pass n (inr best) nowhere = inr (record {
    site = best.site;
    formula = best.formula;
    depth = best.depth;
    sets = best.sets;
    there = best.there;
    covers = best.covers;
    satisfies = best.satisfies;
    least = λ k f m b below at in_m sat. elim (last k n below) [
      | inl less ↦ best.least k f m b less at in_m sat
      | inr same ↦ absurd (nowhere f (subst (λ (j : ℕ). formulas j ≡ Some f) same at) m b in_m sat)
    ];
  })

  module _ (n : ℕ) (f : Formula) (at : formulas n ≡ Some f) (depth : ℕ) (a : Assignment) (own : IsLightestFor tracks f depth a) where
    own-least : (k : ℕ) (g : Formula) (m : ℕ) (b : Assignment) → k ≡ n → formulas k ≡ Some g → Covers m b → WSat g b →
        weight tracks depth a ≤ weight tracks m b
    own-least k g m b same there in_m sat =
        let is : f ≡ g = same_Some f g (sym at ∙ sym (ap formulas same) ∙ there) in
        own.least m b in_m (subst (λ (h : Formula). WSat h b) (sym is) sat)

    -- the sets of the next site are the lightest so far, where all before are no lighter
    take : ((k : ℕ) (g : Formula) (m : ℕ) (b : Assignment) → k < n → formulas k ≡ Some g → Covers m b → WSat g b →
        weight tracks depth a ≤ weight tracks m b) → Best (suc n)
    take before = record {
      site = n;
      formula = f;
      depth = depth;
      sets = a;
      there = at;
      covers = own.covers;
      satisfies = own.satisfies;
      least = λ k g m b below there in_m sat. elim (last k n below) [
        | inl less ↦ before k g m b less there in_m sat
        | inr same ↦ own-least k g m b same there in_m sat
      ];
    }

    -- and otherwise those before stay
    stay : (best : Best n) → weight tracks best.depth best.sets ≤ weight tracks depth a → Best (suc n)
    stay best as_light = record {
      site = best.site;
      formula = best.formula;
      depth = best.depth;
      sets = best.sets;
      there = best.there;
      covers = best.covers;
      satisfies = best.satisfies;
      least = λ k g m b below there in_m sat. elim (last k n below) [
        | inl less ↦ best.least k g m b less there in_m sat
        | inr same ↦ (let no_less = own-least k g m b same there in_m sat in omega (arith, no_less, as_light))
      ];
    }

    more : NoneBefore n ⊎ Best n → Best (suc n)
    more (inl none) = take (λ k g m b less there in_m sat. absurd (none k less g there m b in_m sat))
    more (inr best) = elim (cases_lt (weight tracks depth a) (weight tracks best.depth best.sets)) as (λ _. Best (suc n)) [
      | inl lighter ↦ take (λ k g m b less there in_m sat. let no_less = best.least k g m b less there in_m sat in omega (arith, no_less, lighter))
      | inr as_light ↦ stay best as_light
    ]

  with-formula : (n : ℕ) (f : Formula) → formulas n ≡ Some f → NoneBefore n ⊎ Best n → NoneBefore (suc n) ⊎ Best (suc n)
  with-formula n f at before = elim (lightest-exists f tracks) as (λ _. NoneBefore (suc n) ⊎ Best (suc n)) [
    | inl none ↦ pass n before (λ g there. subst HasNoModel (same_Some f g (sym at ∙ there)) none)
    | inr (depth, a, own) ↦ inr (more n f at depth a own before)
  ]

  next : (n : ℕ) → NoneBefore n ⊎ Best n → (o : Option Formula) → formulas n ≡ o → NoneBefore (suc n) ⊎ Best (suc n)
  next n before None at = pass n before (λ f there. let none : None ≡ Some f = sym at ∙ there in absurd (cc))
  next n before (Some f) at = with-formula n f at before

  pub best-before : (n : ℕ) → NoneBefore n ⊎ Best n
  best-before zero = inl (λ k below. absurd (omega (arith, below)))
  best-before (suc n) = next n (best-before n) (formulas n) refl

-- ---- judgements

module _ (types : List TypeEntry) (vars : List VarEntry) (t : Triple) (table : IsTypeTable types) (functional : AreFunctional types)
    (standing : CanBeJudged types vars t) where
  abbrev formulas : ℕ → Option Formula
  formulas = site_formula types vars t

  abbrev all-tracks : List ℕ
  all-tracks = tracks-to (length (variants_from 0 types))

  abbrev HasLeast : Type 0
  HasLeast = (s : StoreMap) × (why : Cause) × (line : ℕ) × IsLeastFailing types vars t s why line

  from-best : Best formulas all-tracks (length (sites_of types t)) → HasLeast
  from-best best =
      let finite = Covers-finite best.depth best.sets best.covers in
      let lays = lays-out types vars t table best.sets finite best.site best.formula best.there best.satisfies in
      let (first, of_first) = store_of_finite types vars best.sets lays finite in
      let (s, is) = set_store types first of_first.fits.cells in
      let of = IsStoreOf-alike types vars best.sets first s of_first is.same (is.fits vars of_first.fits) (is.fresh of_first.fresh) in
      let well = IsWellFormed-set types vars s best.sets functional of is.pointers in
      let holds : IsSatisfiedAt types vars t best.sets best.site = record { formula = best.formula; there = best.there; holds = best.satisfies } in
      let is_over = over types vars t table functional standing s best.sets finite well of.assignment in
      let (why, line, fails) = satisfied-fails types vars t table functional standing best.sets s best.site is_over holds in
      let cells = weight-cells types vars s best.sets all-tracks best.depth of.fits of.backbone of.assignment (variant-tracks types) best.covers in (
        s,
        why,
        line,
        record {
          meets = satisfied-meets types vars t table functional standing best.sets s best.site is_over holds;
          fails = fails;
          numbers = of.numbers;
          fewest = λ u cause at meets_u fails_u.
              let is_told = told types vars t table functional standing u cause at meets_u fails_u in
              let other = (is_told.first).satisfied in
              let no_less = best.least (is_told.first).site other.formula is_told.depth is_told.sets is_told.inside other.there is_told.covers other.holds in
              let others = weight-cells types vars u is_told.sets all-tracks is_told.depth (meets_u.well_formed).fits (meets_u.well_formed).backbone
              is_told.tree (variant-tracks types) is_told.covers in
              omega (arith, no_less, others, cells);
        },
      )

  pub judged-somehow : IsValid types vars t ⊎ HasLeast
  judged-somehow = elim (best-before formulas all-tracks (length (sites_of types t))) as (λ _. IsValid types vars t ⊎ HasLeast) [
    | inl none ↦ inl (valid-from types vars t table functional standing none)
    | inr best ↦ inr (from-best best)
  ]
