-- The formula of an assertion on a region is satisfied by the tree of a well-formed store exactly where the store satisfies the assertion
-- there.
use Rattle.std.proofs.Common.{◌≡◌, ◌≢◌, ◌↔◌, ℕ, suc, ◌≤◌, true, false, IsTrue, List}
use Rattle.std.proofs.Common.{[], map, Option, Some, None, IsSome, IsSomeAnd, refl, sym, subst, arith}
use Rattle.std.specs.List.{AllByRecursion}
use Rattle.gta_theory.specs.Assignments.{PositionSet, Assignment, IsFiniteSet, replace}
use Rattle.gta_theory.proofs.AssignmentsLemmas.{replace-other}
use Rattle.ws2s_theory.proofs.ContextsLemmas.{IsFinite-replace}
use Rattle.ws2s_core.specs.declared.formula.Formula.{Formula}
use Rattle.ws2s_core.specs.declared.formula.Formula.TheVariants.{And, Ex2}
use Rattle.ws2s_core.specs.Satisfaction.{WSat}
use Rattle.ws2s_core.proofs.SatisfactionLemmas.{WSat-And, WSat-Ex2}
use Rattle.ws2s_forms.specs.Forms.{track}
use Rattle.store_core.specs.declared.ids.VarId.{VarId}
use Rattle.store_core.specs.declared.value.Value.{Value}
use Rattle.store_core.specs.Tables.{TypeEntry, VarEntry}
use Rattle.store_core.specs.Stores.{StoreMap, CellEntry, IsLive, cell_of}
use Rattle.routing_walks.specs.declared.fault.Place.TheVariants as place
use Rattle.routing_walks.specs.WellFormed.{NamesDead}
use Rattle.routing_walks.specs.CutFaults.{HasDanglingReference}
use Rattle.routing_walks.specs.Shown.{at_reference}
use Rattle.routing_walks.proofs.DecidedStores.{no_cause}
use Rattle.store_logic.specs.declared.assertion.Assertion.{Assertion}
use Rattle.store_logic.specs.declared.region.Region.{Region}
use Rattle.store_logic.specs.declared.region.Region.TheVariants as region
use Rattle.store_logic.specs.Fits.{AssertionFits, RegionFits, IsKnownDataVar}
use Rattle.store_logic.specs.Terms.{outside}
use Rattle.store_logic.specs.Satisfaction.{Sat}
use Rattle.tree_encode.specs.Layouts.{LaidOut}
use Rattle.tree_encode.specs.Tracks.{track_count}
use Rattle.tree_store.proofs.TablesLemmas.{track-few}
use Rattle.graph_view.specs.After.{Standing, AreStanding}
use Rattle.graph_meaning.specs.Walks.Wells.{ShowsWell}
use Rattle.graph_meaning.specs.Fields.Beginning.{first_view, own_tracks}
use Rattle.graph_meaning.proofs.fields.BeginningLemmas.{first-shows_well}
use Rattle.graph_meaning.proofs.fields.StandingLemmas.{standing}
use Rattle.graph_meaning.proofs.live.AgreeingLemmas.{Agrees-itself}
use Rattle.site_list.specs.States.{value_of}
use Rattle.site_list.specs.Claims.{assertion}
use Rattle.site_list.specs.Parts.{is_part}
use Rattle.triple_meaning.specs.Claims.Given.{HasPart, NameLive}
use Rattle.triple_meaning.specs.Sites.Seeing.{IsOver}
use Rattle.triple_meaning.proofs.claims.ClaimLemmas.{region-means}
use Rattle.triple_meaning.proofs.claims.PartLemmas.{live-part-means, part-there}
use Rattle.store_claims.specs.Formulas.{all_cells, cells_on, on_all, on_part, formula_on}

-- where no reference dangles, a variable that names a cell names a live one
names-live : (s : StoreMap) (roots : List VarId) → (HasDanglingReference s → ⊥) → NameLive s roots
names-live s roots none c (v, listed, holds) = by (cell_of s c) refl
  where
    by : (o : Option CellEntry) → cell_of s c ≡ o → IsLive s c
    by (Some entry) is = subst (λ (x : Option CellEntry). IsSome x) (sym is) refl
    by None is = absurd (none (record {
      place = place.Var v;
      dangling = subst (λ (x : Option Value). IsSomeAnd x (NamesDead s)) (sym holds) is;
    }))

module _ (types : List TypeEntry) (vars : List VarEntry) (s : StoreMap) where
  abbrev layout : LaidOut
  layout = record { types = types; vars = vars; spares = [] }

  abbrev count : ℕ
  count = track_count types vars

  shown : (b : Assignment) (over : IsOver types vars b s) (at : Standing) → AreStanding types vars s at → (next : ℕ) → count ≤ next →
      ShowsWell layout (first_view types vars next) b s s s at next
  shown b over at stand next few = first-shows_well layout s b at next over.table over.well over.tree stand few

  -- the tree is the same with another set behind the tracks of the layout
  over-set : (a : Assignment) → IsOver types vars a s → (set : PositionSet) → IsFiniteSet set → IsOver types vars (replace a count set) s
  over-set a over set finite = record {
    finite = IsFinite-replace a count set over.finite finite;
    table = over.table;
    well = over.well;
    tree = record {
      tracks = λ what t p is.
          let few = track-few types vars what t is in
          let other : t.0 ≢ count = λ e. let k : ⊥ = omega (arith, e, few) in k in
          let same : replace a count set t.0 ≡ a t.0 = replace-other a count t.0 set other in
          let on = over.tree.tracks what t p is in (
            (λ h. on.0 (subst (λ (z : PositionSet). IsTrue (z p)) same h)),
            (λ h. subst (λ (z : PositionSet). IsTrue (z p)) (sym same) (on.1 h)),
          );
    };
  }

  live-roots : (a : Assignment) → IsOver types vars a s → (roots : List VarId) → NameLive s roots
  live-roots a over roots = names-live s roots (λ h. no_cause types vars s over.well.fits
      (record { backbone = over.well.backbone; pointers = over.well.pointers }) (at_reference h.place h.dangling))

  module _ (a : Assignment) (over : IsOver types vars a s) (it : Assertion) (fits : AssertionFits types vars it) where
    -- ---- on all cells

    all-told : WSat (on_all types vars it) a ↔ Sat types vars [] s region.All outside it
    all-told =
        let (at, stand) = standing types vars s over.well.backbone in
        region-means layout (first_view types vars count) a s s at count (shown a over at stand count (omega arith)) a count
        (Agrees-itself count a over.finite) (omega arith) it fits None region.All tt

    -- ---- on a part, or on the rest

    module _ (roots : List VarId) (known : AllByRecursion (IsKnownDataVar vars) roots) where
      abbrev part : Formula
      part = is_part types (all_cells vars) (map (value_of (own_tracks types vars)) roots) count (suc count)

      -- some set is the part, and the inner formula says this with it
      some-part : (at : Standing) → AreStanding types vars s at → (inner : Formula) (S : Type 0) →
          ((b : Assignment) → IsOver types vars b s → HasPart types vars b at (track count) s roots → WSat inner b ↔ S) →
          WSat (Ex2 (track count) (And part inner)) a ↔ S
      some-part at stand inner S means = (
        λ h.
            let (set, finite, inside) = (WSat-Ex2 (track count) (And part inner) a).0 h in
            let parts = (WSat-And part inner (replace a count set)).0 inside in
            (means (replace a count set) (over-set a over set finite) ((has set finite).0 parts.0)).0 parts.1,
        λ sat.
            let (set, finite, is) = part-there layout (first_view types vars count) a s s at count (shown a over at stand count (omega arith)) roots known
            a (suc count) count (Agrees-itself count a over.finite) (omega arith) (omega arith) in
            (WSat-Ex2 (track count) (And part inner) a).1 (
              set,
              finite,
              (WSat-And part inner (replace a count set)).1 (
                is,
                (means (replace a count set) (over-set a over set finite) ((has set finite).0 is)).1 sat,
              ),
            ),
      )
        where
          has : (set : PositionSet) (finite : IsFiniteSet set) →
              WSat part (replace a count set) ↔ HasPart types vars (replace a count set) at (track count) s roots
          has set finite =
              let b = replace a count set in
              let over_b = over-set a over set finite in
              live-part-means layout (first_view types vars (suc count)) b s s at (suc count) (shown b over_b at stand (suc count) (omega arith)) roots known
              b (suc count) count (Agrees-itself (suc count) b over_b.finite) (omega arith) (omega arith) (live-roots a over roots)

      inside-told : WSat (on_part types vars roots true it) a ↔ Sat types vars [] s (region.Part roots) outside it
      inside-told =
          let (at, stand) = standing types vars s over.well.backbone in
          some-part at stand (assertion types (cells_on types vars true) (own_tracks types vars) it (suc count))
          (Sat types vars [] s (region.Part roots) outside it) (λ b over_b has.
          region-means layout (first_view types vars (suc count)) b s s at (suc count) (shown b over_b at stand (suc count) (omega arith)) b (suc count)
          (Agrees-itself (suc count) b over_b.finite) (omega arith) it fits (Some (track count)) (region.Part roots)
          (record { below = omega arith; has = has }))

      outside-told : WSat (on_part types vars roots false it) a ↔ Sat types vars [] s (region.Rest roots) outside it
      outside-told =
          let (at, stand) = standing types vars s over.well.backbone in
          some-part at stand (assertion types (cells_on types vars false) (own_tracks types vars) it (suc count))
          (Sat types vars [] s (region.Rest roots) outside it) (λ b over_b has.
          region-means layout (first_view types vars (suc count)) b s s at (suc count) (shown b over_b at stand (suc count) (omega arith)) b (suc count)
          (Agrees-itself (suc count) b over_b.finite) (omega arith) it fits (Some (track count)) (region.Rest roots)
          (record { below = omega arith; has = has }))

    pub told : (on : Region) → RegionFits vars on → WSat (formula_on types vars on it) a ↔ Sat types vars [] s on outside it
    told region.All named = all-told
    told (region.Part roots) named = inside-told roots named
    told (region.Rest roots) named = outside-told roots named
