-- The store that the lightest tree lays out is one of the fewest cells that meets the triple and fails, and where no tree satisfies the
-- formula of a site the triple is valid.
use Rattle.std.proofs.Common.{◌≡◌, ◌+◌, ◌<◌, ◌≤◌, ℕ, List, length, slice_get, Option, Some, None, sym, subst, arith}
use Rattle.std.specs.Prelude.{option_map, map, ◌++◌, ◌∷◌, []}
use Rattle.std.specs.FinMap.{keys}
use Rattle.std.proofs.lemmas.Option.{same_Some, slice_get_within}
use Rattle.gta_theory.specs.Assignments.{Assignment, IsFinite, Covers}
use Rattle.gta_theory.specs.Weights.{weight}
use Rattle.gta_theory.proofs.AssignmentsLemmas.{Covers-finite}
use Rattle.gta_witness.specs.Lightest.{each_once}
use Rattle.ws2s_core.specs.declared.formula.Formula.{Formula}
use Rattle.ws2s_core.specs.declared.formula.Formula.TheVariants.{And}
use Rattle.ws2s_core.specs.LabelTrees.{assignment_of}
use Rattle.ws2s_core.specs.Satisfaction.{WSat}
use Rattle.ws2s_core.proofs.LabelTreesLemmas.{Covers-tree}
use Rattle.ws2s_forms.specs.Forms.{and_list, empty_at}
use Rattle.ws2s_forms.proofs.ConnectivesLemmas.{WSat-and_list}
use Rattle.store_core.specs.Tables.{TypeEntry, VarEntry, IsTypeTable}
use Rattle.store_core.specs.Stores.{StoreMap}
use Rattle.store_exec.specs.declared.cause.Cause.{Cause}
use Rattle.store_exec.specs.declared.triple.Triple.{Triple}
use Rattle.store_exec.specs.Failing.{Meets, Fails}
use Rattle.witness_store.specs.Pointers.{ArePointersSet}
use Rattle.routing_walks.specs.WellFormed.{IsWellFormed}
use Rattle.tree_encode.specs.Tracks.{track_count, var_track}
use Rattle.tree_store.specs.Shapes.{LaysOut}
use Rattle.tree_store.specs.Encoding.{IsAssignmentOf}
use Rattle.tree_store.proofs.WeighingLemmas.{weight-cells}
use Rattle.tree_formula.specs.WellEncoded.{track_or_first, well_encoded}
use Rattle.tree_store.proofs.FormulaLemmas.{well_encoded-means}
use Rattle.tree_store.proofs.TablesLemmas.{owners-there}
use Rattle.tree_apart.specs.Apart.{HoldsOfTrees}
use Rattle.tree_store.specs.Stores.{IsStoreOf}
use Rattle.graph_meaning.proofs.fields.AssignmentLemmas.{assignment}
use Rattle.witness_store.specs.Alike.{AreFunctional}
use Rattle.witness_store.proofs.FunctionalLemmas.{IsWellFormed-set}
use Rattle.field_judge.specs.Known.{FollowsFrom}
use Rattle.field_judge.proofs.WeighedLemmas.{are-variant_tracks}
use Rattle.site_list.specs.declared.site.Site.{Site}
use Rattle.triple_meaning.specs.Sites.Seeing.{IsOver}
use Rattle.site_list.specs.States.{Check}
use Rattle.site_list.specs.Sites.{sites_of}
use Rattle.site_list.specs.Triples.{walked, bind, definitions, start_holds, site_formula_at, first_bound, site_formula}
use Rattle.triple_meaning.specs.Failing.Satisfying.{IsSatisfiedAt, IsFirstSatisfied}
use Rattle.triple_judge.specs.declared.searching.Found.{Found}
use Rattle.triple_judge.specs.Searching.{IsNowhere, IsLightest}
use Rattle.triple_judge.specs.Lightest.{IsLightestFailure}
use Rattle.triple_judge.specs.Judging.{IsValid, IsLeastFailing}
use Rattle.triple_judge.specs.Standing.{CanBeJudged}
use Rattle.triple_judge.proofs.MeaningLemmas.{place_of, first-satisfied, satisfied-meets, first-fails, passed-place, first-place}

-- ---- what satisfies the formula of a site is a tree

first-part : (next : ℕ) (f : Formula) (fs : List Formula) (a : Assignment) → WSat (and_list next (f ∷ fs)) a → WSat f a
first-part next f fs a sat = ((WSat-and_list a next (f ∷ fs)).0 sat).0

module _ (types : List TypeEntry) (vars : List VarEntry) (t : Triple) (a : Assignment) where
  abbrev from : ℕ
  from = first_bound types vars (walked types vars t)

  -- the other parts of the formula of a site
  abbrev others : Check → List Formula
  others c =
      map (λ v. empty_at from (track_or_first (var_track types vars v)).0) t.start.nulls
      ++ bind (track_count types vars) (definitions (walked types vars t) from) (start_holds types vars t.start from)
      ∷ bind (track_count types vars) (definitions (walked types vars t) from) (And (c.reached from) (c.condition from)) ∷ []

  -- the first part is the formula of trees
  encoded : (site : ℕ) (f : Formula) → site_formula types vars t site ≡ Some f → WSat f a → WSat (well_encoded from types vars) a
  encoded site f there sat = by (slice_get (walked types vars t).checks site) there
    where
      by : (o : Option Check) → option_map (site_formula_at types vars t (walked types vars t) from) o ≡ Some f → WSat (well_encoded from types vars) a
      by None e = absurd (cc)
      by (Some c) e =
          let is : site_formula_at types vars t (walked types vars t) from c ≡ f = same_Some (site_formula_at types vars t (walked types vars t) from c) f e in
          first-part from (well_encoded from types vars) (others c) a (subst (λ (g : Formula). WSat g a) (sym is) sat)

  -- whose quantifiers bind no track of the layout
  room : track_count types vars ≤ from
  room = let most : track_count types vars ≤ track_count types vars + length (walked types vars t).defined = omega arith in most

-- what holds of all trees follows from the formula of a site
pub follows-site : (types : List TypeEntry) (vars : List VarEntry) (t : Triple) (site : ℕ) (f known : Formula) → HoldsOfTrees types vars known →
    site_formula types vars t site ≡ Some f → FollowsFrom f known
follows-site types vars t site f known holds there a finite sat =
    holds (from types vars t a) a (room types vars t a) finite (encoded types vars t a site f there sat)

pub lays-out : (types : List TypeEntry) (vars : List VarEntry) (t : Triple) → IsTypeTable types → (a : Assignment) → IsFinite a → (site : ℕ)
    (f : Formula) → site_formula types vars t site ≡ Some f → WSat f a → LaysOut types vars a
lays-out types vars t table a finite site f there sat =
    (well_encoded-means types vars (owners-there types table) a (from types vars t a) (room types vars t a) finite).0
    (encoded types vars t a site f there sat)

pub lays-out-found : (types : List TypeEntry) (vars : List VarEntry) (t : Triple) (found : Found) → IsTypeTable types →
    IsLightestFailure types vars t found → LaysOut types vars (assignment_of found.tree)
lays-out-found types vars t found table failure =
    let own = failure.lightest.own in
    let covers = Covers-tree found.tree in
    lays-out types vars t table (assignment_of found.tree) (Covers-finite (length found.tree) (assignment_of found.tree) covers)
    found.site own.formula own.there own.model.satisfies

-- ---- stores that meet the triple and fail

module _ (types : List TypeEntry) (vars : List VarEntry) (t : Triple) (table : IsTypeTable types) (functional : AreFunctional types)
    (standing : CanBeJudged types vars t) where
  abbrev formulas : ℕ → Option Formula
  formulas = site_formula types vars t

  pub over : (s : StoreMap) (a : Assignment) → IsFinite a → IsWellFormed types vars s → IsAssignmentOf types vars s a → IsOver types vars a s
  over s a finite well means = record { finite = finite; table = table; well = well; tree = means }

  -- the sets of a store that meets the triple and fails satisfy the formula of a site of the list
  pub record IsTold (s : StoreMap) (why : Cause) (line : ℕ) : Type 0 where
    pub depth : ℕ
    pub sets : Assignment
    pub covers : Covers depth sets
    pub tree : IsAssignmentOf types vars s sets
    pub first : IsFirstSatisfied types vars t sets why line
    pub inside : first.site < length (sites_of types t)

  pub told : (s : StoreMap) (why : Cause) (line : ℕ) → Meets types vars t s → Fails types vars t s why line → IsTold s why line
  told s why line meets fails =
      let (depth, a, covers, means) = assignment types vars s (meets.well_formed).backbone in
      let first = first-satisfied types vars t table functional standing a s why line (over s a (Covers-finite depth a covers) meets.well_formed means)
      meets fails in
      record {
        depth = depth;
        sets = a;
        covers = covers;
        tree = means;
        first = first;
        inside = slice_get_within (sites_of types t) first.site (place_of why line) (first-place types vars t table functional standing a why line first);
      }

  -- where no tree satisfies the formula of a site
  pub valid-from : ((site : ℕ) → site < length (sites_of types t) → IsNowhere (site_formula types vars t) site) → IsValid types vars t
  valid-from none s why line meets fails =
      let is = told s why line meets fails in
      let site = (is.first).satisfied in
      none (is.first).site is.inside site.formula site.there is.depth is.sets is.covers site.holds

  module _ (found : Found) (failure : IsLightestFailure types vars t found) (s : StoreMap)
      (of : IsStoreOf types vars (assignment_of found.tree) s) (set : ArePointersSet types s) (place : Site)
      (there : slice_get (sites_of types t) found.site ≡ Some place) where
    abbrev a : Assignment
    a = assignment_of found.tree

    finite : IsFinite a
    finite = Covers-finite (length found.tree) a (Covers-tree found.tree)

    well : IsWellFormed types vars s
    well = IsWellFormed-set types vars s a functional of set

    lightest : IsLightest formulas failure.tracks (length (sites_of types t)) found
    lightest = failure.lightest

    -- the tree weighs as much as the store has cells
    weighs : weight (each_once failure.tracks) (length found.tree) a ≡ found.weight
    weighs = lightest.own.model.weighs

    cells : weight (each_once failure.tracks) (length found.tree) a ≡ length (keys s.cells)
    cells = weight-cells types vars s a (each_once failure.tracks) (length found.tree) of.fits of.backbone of.assignment
        (are-variant_tracks types failure.tracks failure.all)
        (Covers-tree found.tree)

    holds : IsSatisfiedAt types vars t a found.site
    holds = record { formula = (lightest.own).formula; there = (lightest.own).there; holds = ((lightest.own).model).satisfies }

    -- no earlier site holds on the store, since it would have been found with the same weight
    none-earlier : (site : ℕ) → site < found.site → IsSatisfiedAt types vars t a site → ⊥
    none-earlier site earlier at_site =
        let heavier = lightest.first site at_site.formula (length found.tree) a earlier at_site.there (Covers-tree found.tree) at_site.holds in
        absurd (omega (arith, heavier, weighs))

    -- so it is the first site that holds, and the store fails with its cause at its line
    fails-there : Fails types vars t s place.cause place.line
    fails-there = first-fails types vars t table functional standing a s place.cause place.line (over s a finite well of.assignment) (record {
      site = found.site;
      satisfied = holds;
      before = none-earlier;
      is = passed-place types vars t table functional standing found.site place there;
    })

    fewest : (u : StoreMap) (cause : Cause) (at : ℕ) → Meets types vars t u → Fails types vars t u cause at →
        length (keys s.cells) ≤ length (keys u.cells)
    fewest u cause at meets fails =
        let is = told u cause at meets fails in
        let site = (is.first).satisfied in
        let no_less = lightest.least (is.first).site site.formula is.depth is.sets is.inside site.there is.covers site.holds in
        let others = weight-cells types vars u is.sets (each_once failure.tracks) is.depth (meets.well_formed).fits (meets.well_formed).backbone is.tree
        (are-variant_tracks types failure.tracks failure.all) is.covers in
        omega (arith, no_less, others, cells, weighs)

    pub least-failing : IsLeastFailing types vars t s place.cause place.line
    least-failing = record {
      meets = satisfied-meets types vars t table functional standing a s found.site (over s a finite well of.assignment) holds;
      fails = fails-there;
      numbers = of.numbers;
      fewest = fewest;
    }

-- ---- what the answers exclude

pub not-valid : (types : List TypeEntry) (vars : List VarEntry) (t : Triple) (s : StoreMap) (why : Cause) (line : ℕ) →
    IsLeastFailing types vars t s why line → IsValid types vars t → ⊥
not-valid types vars t s why line least valid = valid s why line least.meets least.fails
