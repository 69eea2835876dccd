-- The formula of a site: the tree, the start, and the place.
use Rattle.std.proofs.Common.{◌≡◌, ◌↔◌, ℕ, ◌≤◌, List, [], ◌∷◌, ◌++◌, length, map, slice_get, All, Option, Some, None, IfSome, IsSomeAnd, refl, sym, ap, ◌∙◌}
use Rattle.std.proofs.Common.{subst, arith}
use Rattle.std.specs.Prelude.{option_map}
use Rattle.gta_theory.specs.Assignments.{Assignment, IsFinite}
use Rattle.ws2s_core.specs.declared.formula.Formula.{Formula}
use Rattle.ws2s_core.specs.declared.formula.Formula.TheVariants.{And}
use Rattle.ws2s_core.specs.Satisfaction.{WSat}
use Rattle.ws2s_core.proofs.SatisfactionLemmas.{WSat-And}
use Rattle.ws2s_forms.specs.Forms.{empty_at}
use Rattle.ws2s_forms.proofs.ConnectivesLemmas.{EachSat, WSat-and_list, EachSat-append}
use Rattle.store_core.specs.declared.ids.VarId.{VarId}
use Rattle.store_core.specs.Tables.{TypeEntry, VarEntry}
use Rattle.store_core.specs.Stores.{StoreMap, var_value}
use Rattle.store_exec.specs.declared.triple.Triple.{Triple}
use Rattle.store_exec.specs.Cuts.{AreMet, Escapes}
use Rattle.store_exec.specs.Failing.{IsBlank, StartHolds}
use Rattle.tree_encode.specs.Tracks.{track_count, var_track}
use Rattle.tree_formula.specs.WellEncoded.{track_or_first, well_encoded}
use Rattle.tree_store.proofs.TablesLemmas.{owners-there}
use Rattle.witness_store.specs.Alike.{IsOfWellFormed}
use Rattle.tree_store.proofs.FormulaLemmas.{well_encoded-means}
use Rattle.tree_store.proofs.HoldersLemmas.{backbone-lays}
use Rattle.tree_store.proofs.ExistenceLemmas.{store_of_finite}
use Rattle.witness_store.proofs.FunctionalLemmas.{IsOfWellFormed-store}
use Rattle.site_list.specs.States.{Check}
use Rattle.site_list.specs.Triples.{at_start, walked, bind, definitions, start_holds, site_formula_at, first_bound, site_formula}
use Rattle.triple_meaning.specs.Sites.Places.{Comes}
use Rattle.triple_meaning.specs.Sites.Seeing.{IsOver, HasRoom, AreDefined}
use Rattle.triple_meaning.proofs.sites.BeginningLemmas.{begins}
use Rattle.triple_meaning.specs.Tracks.Defining.{IsWithMade}
use Rattle.triple_meaning.proofs.tracks.TripleLemmas.{walked-kept}
use Rattle.triple_meaning.proofs.tracks.BindingLemmas.{bound-means, values-there}
use Rattle.triple_meaning.specs.Failing.Satisfying.{IsPosed, IsSatisfiedAt}
use Rattle.triple_meaning.proofs.failing.OverLemmas.{over-others, wells}
use Rattle.triple_meaning.proofs.failing.NullLemmas.{nulls-mean}
use Rattle.triple_meaning.proofs.failing.StartLemmas.{start-told}

module _ (types : List TypeEntry) (vars : List VarEntry) (t : Triple) (posed : IsPosed types vars t) (a : Assignment) where
  -- where quantifiers begin to bind
  abbrev pub from : ℕ
  from = first_bound types vars (walked types vars t)

  pub room : HasRoom types vars (first_bound types vars (walked types vars t)) (walked types vars t)
  room = omega arith

  abbrev null_parts : List Formula
  null_parts = map (λ (v : VarId). empty_at from (track_or_first (var_track types vars v)).0) t.start.nulls

  abbrev start_part : Formula
  start_part = bind (track_count types vars) (definitions (walked types vars t) from) (start_holds types vars t.start from)

  abbrev place_part : Check → Formula
  place_part c = bind (track_count types vars) (definitions (walked types vars t) from) (And (c.reached from) (c.condition from))

  -- the parts of the formula
  pub record HoldsAt (c : Check) : Type 0 where
    pub tree : WSat (well_encoded (first_bound types vars (walked types vars t)) types vars) a
    pub nulls : EachSat a null_parts
    pub start : WSat start_part a
    pub place : WSat (place_part c) a

  pub parts-hold : (c : Check) → WSat (site_formula_at types vars t (walked types vars t) from c) a ↔ HoldsAt c
  parts-hold c =
      let whole = WSat-and_list a from (well_encoded from types vars ∷ null_parts ++ start_part ∷ place_part c ∷ []) in
      let parts = EachSat-append a null_parts (start_part ∷ place_part c ∷ []) in (
        (λ h.
            let each = whole.0 h in
            let both = parts.0 each.1 in
            record { tree = each.0; nulls = both.0; start = both.1.0; place = both.1.1.0 }),
        (λ h. whole.1 (h.tree, parts.1 (h.nulls, (h.start, (h.place, tt))))),
      )

  -- the site with the number of a place is satisfied exactly where the parts hold
  pub satisfied-parts : (site : ℕ) (c : Check) → slice_get (walked types vars t).checks site ≡ Some c → IsSatisfiedAt types vars t a site ↔ HoldsAt c
  satisfied-parts site c there =
      let is : site_formula types vars t site ≡ Some (site_formula_at types vars t (walked types vars t) from c) =
      ap (λ o. option_map (site_formula_at types vars t (walked types vars t) from) o) there in (
        (λ h.
            let both : Some h.formula ≡ Some (site_formula_at types vars t (walked types vars t) from c) = sym h.there ∙ is in
            let same : h.formula ≡ site_formula_at types vars t (walked types vars t) from c = cc in
            (parts-hold c).0 (subst (λ f. WSat f a) same h.holds)),
        (λ h. record { formula = site_formula_at types vars t (walked types vars t) from c; there = is; holds = (parts-hold c).1 h }),
      )

  -- a site that is satisfied has its place
  pub satisfied-place : (site : ℕ) → IsSatisfiedAt types vars t a site →
      (c : Check) × (slice_get (walked types vars t).checks site ≡ Some c)
  satisfied-place site h = by (slice_get (walked types vars t).checks site) refl
    where
      by : (o : Option Check) → slice_get (walked types vars t).checks site ≡ o → (c : Check) × (slice_get (walked types vars t).checks site ≡ Some c)
      by None is = (let none : None ≡ Some h.formula = sym (ap (λ o. option_map (site_formula_at types vars t (walked types vars t) from) o) is) ∙ h.there
          in cc)
      by (Some c) is = (c, is)

  -- ---- trees

  module _ (finite : IsFinite a) where
    trees-mean : WSat (well_encoded (first_bound types vars (walked types vars t)) types vars) a ↔ IsOfWellFormed types vars a
    trees-mean =
        let next : ℕ = first_bound types vars (walked types vars t) in
        let few : track_count types vars ≤ next = omega arith in
        let lays = well_encoded-means types vars (owners-there types posed.table) a next few finite in (
          (λ satisfied.
              let (s, of) = store_of_finite types vars a (lays.0 satisfied) finite in
              IsOfWellFormed-store types vars s a posed.functional of),
          (λ of_one.
              lays.1 (backbone-lays types vars of_one.store a of_one.well_formed.fits of_one.well_formed.backbone of_one.well_formed.sets of_one.assignment)),
        )

    pub satisfied-over : (site : ℕ) → IsSatisfiedAt types vars t a site → (s : StoreMap) × IsOver types vars a s
    satisfied-over site h =
        let (c, there) = satisfied-place site h in
        let of = trees-mean.0 ((satisfied-parts site c there).0 h).tree in
        (of.store, record { finite = finite; table = posed.table; well = of.well_formed; tree = of.assignment })

  -- ---- over a tree

  module _ (s : StoreMap) (over : IsOver types vars a s) where
    -- with some values of the made tracks this formula holds
    abbrev HoldsWithMade : Formula → Type 0
    HoldsWithMade f =
        (b : Assignment) × IsWithMade types vars (walked types vars t) a b × AreDefined from b (walked types vars t) × WSat f b

    bound-told : (f : Formula) → WSat (bind (track_count types vars) (definitions (walked types vars t) from) f) a ↔ HoldsWithMade f
    bound-told f =
        bound-means (first_bound types vars (walked types vars t)) (walked types vars t).defined (track_count types vars)
        (walked-kept types vars t posed.fits).made room f a over.finite

    -- with some values of the made tracks the cause comes at the place
    abbrev pub ComesWithMade : Check → Type 0
    ComesWithMade c =
        (b : Assignment) × IsWithMade types vars (walked types vars t) a b × AreDefined from b (walked types vars t) × Comes from b c

    place-means : (c : Check) → WSat (place_part c) a ↔ ComesWithMade c
    place-means c =
        let bound = bound-told (And (c.reached from) (c.condition from)) in (
          (λ h. let (b, others, defined, holds) = bound.0 h in (b, others, defined, (WSat-And (c.reached from) (c.condition from) b).0 holds)),
          (λ (h : ComesWithMade c).
              let (b, others, defined, comes) = h in
              bound.1 (b, others, defined, (WSat-And (c.reached from) (c.condition from) b).1 comes)),
        )

    abbrev StartIsMet : Type 0
    StartIsMet = AreMet types vars s t.start.asserts × IfSome t.start.returned (λ part. Escapes types vars s part t.start.inside → ⊥)

    start-means : WSat start_part a ↔ StartIsMet
    start-means =
        let bound = bound-told (start_holds types vars t.start from) in (
          (λ h.
              let (b, others, defined, holds) = bound.0 h in
              (start-told types vars t posed b s (over-others types vars a b s (length (walked types vars t).defined) over others) from room defined).0 holds),
          (λ met.
              let (b, others, defined) =
              values-there from (walked types vars t).defined (track_count types vars) (walked-kept types vars t posed.fits).made room a over.finite in
              bound.1 (
                b,
                others,
                defined,
                (start-told types vars t posed b s (over-others types vars a b s (length (walked types vars t).defined) over others) from room defined).1 met,
              )),
        )

    nulls-told : EachSat a null_parts ↔ All (λ (v : VarId). IsSomeAnd (var_value s v) IsBlank) t.start.nulls
    nulls-told =
        let (at, sees) = begins types vars a s from over (omega (arith, room)) in
        nulls-mean types vars a s at from (wells types vars from a s (at_start types vars) s at sees) t.start.nulls posed.fits.start.nulls

    start-met : EachSat a null_parts → WSat start_part a → StartHolds types vars t.start s
    start-met nulls start =
        let met = start-means.0 start in
        record { nulls = nulls-told.0 nulls; pointers = met.1; claims = met.0 }

    -- the site's formula, by the store and the made tracks
    pub site-told : (site : ℕ) (c : Check) → slice_get (walked types vars t).checks site ≡ Some c →
        IsSatisfiedAt types vars t a site ↔ (StartHolds types vars t.start s × ComesWithMade c)
    site-told site c there =
        let parts = satisfied-parts site c there in (
          (λ h. let each = parts.0 h in (start-met each.nulls each.start, (place-means c).0 each.place)),
          (λ (h : StartHolds types vars t.start s × ComesWithMade c).
              let (holds, comes) = h in
              parts.1 (record {
                tree = (trees-mean over.finite).1 (record { store = s; well_formed = over.well; assignment = over.tree });
                nulls = nulls-told.1 holds.nulls;
                start = start-means.1 (holds.claims, holds.pointers);
                place = (place-means c).1 comes;
              })),
        )
