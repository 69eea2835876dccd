-- Claims: assertions on regions whose track has the part.
use Rattle.std.proofs.Common.{◌≡◌, ◌↔◌, ℕ, ◌≤◌, Bool, true, false, List, [], Option, Some, None, refl, sym, ap, subst}
use Rattle.std.specs.Option.{option_map_or}
use Rattle.gta_theory.specs.Assignments.{Assignment}
use Rattle.ws2s_core.specs.declared.track.Track.{Track}
use Rattle.ws2s_core.specs.Satisfaction.{WSat}
use Rattle.store_core.specs.declared.ids.CellId.{CellId}
use Rattle.store_core.specs.declared.ids.VarId.{VarId}
use Rattle.store_core.specs.Stores.{StoreMap}
use Rattle.store_core.proofs.FittingLemmas.{IsSomeAnd-at}
use Rattle.routing_walks.specs.Sets.{Lists}
use Rattle.routing_walks.specs.Reaching.{IsUnreached}
use Rattle.routing_walks.specs.Regions.{IsPart, IsRest, store_on}
use Rattle.routing_walks.proofs.TreeLemmas.{IsInTree-live}
use Rattle.routing_walks.proofs.DecidedStores.{part_of, rest_of}
use Rattle.routing_walks.proofs.RegionLemmas.{part_closed}
use Rattle.store_logic.specs.declared.assertion.Assertion.{Assertion}
use Rattle.store_logic.specs.declared.region.Region.{Region}
use Rattle.store_logic.specs.declared.region.Region.TheVariants as region
use Rattle.store_logic.specs.Fits.{AssertionFits}
use Rattle.store_logic.specs.Terms.{outside}
use Rattle.store_logic.specs.Satisfaction.{SatAll, Sat, Says}
use Rattle.store_logic.proofs.RegionLemmas.{Sat-on}
use Rattle.tree_encode.specs.Layouts.{LaidOut}
use Rattle.graph_view.specs.declared.view.View.{View}
use Rattle.graph_view.specs.Sights.{sight_of}
use Rattle.graph_view.specs.After.{Standing, IsRegion, IsRead, IsRegionBelow}
use Rattle.graph_meaning.specs.Live.Meaning.{Agrees}
use Rattle.graph_meaning.specs.Walks.Wells.{ShowsWell}
use Rattle.site_list.specs.Claims.{assertion, region_on}
use Rattle.triple_meaning.specs.Claims.Given.{IsGiven, IsRegionGiven}
use Rattle.triple_meaning.proofs.claims.MeaningLemmas.{assertion-means, none-bound}

module _ (l : LaidOut) (view : View) (a : Assignment) (first s : StoreMap) (at : Standing) (count : ℕ) (wells : ShowsWell l view a first s s at count) where
  -- the same view of a region
  abbrev within : Option (Track × Bool) → View
  within on = record view { region = on }

  region-shown : (on : Option (Track × Bool)) (t : StoreMap) → IsRead l.types a at on s t → IsRegionBelow count on →
      ShowsWell l (within on) a first s t at count
  region-shown on t read below = record {
    table = wells.table;
    well = wells.well;
    shows = record {
      owners = wells.shows.owners;
      fits = wells.shows.fits;
      backbone = wells.shows.backbone;
      assignment = wells.shows.assignment;
      seen = wells.shows.seen;
      read = read;
      free = record {
        layout = wells.shows.free.layout;
        vars = wells.shows.free.vars;
        events = wells.shows.free.events;
        region = below;
      };
    };
  }

  -- a track that is given has a region
  given-region : (roots : List VarId) (x : Track) (cells : List CellId) → IsGiven l.types l.vars a at s count roots x → IsPart l.types l.vars s roots cells →
      IsRegion l.types a at x s cells
  given-region roots x cells given part = record {
    live = λ c inside. let h = (part.members c).0 inside in IsInTree-live l.types l.vars s h.root c h.in_tree;
    each = λ p. (
      (λ on. let (c, reached, here) = (given.has p).0 on in (c, (part.members c).1 reached, here)),
      (λ h. (given.has p).1 (h.0, (part.members h.0).0 h.1, h.2)),
    );
    closed = part_closed l.types l.vars s roots cells part;
  }

  -- what isn't in the part is what isn't reached
  rest-unreached : (roots : List VarId) (cells rest : List CellId) → IsPart l.types l.vars s roots cells → IsRest s cells rest →
      Lists (IsUnreached l.types l.vars s roots) rest
  rest-unreached roots cells rest part lists = record {
    rising = lists.rising;
    members = λ c. (
      (λ inside.
          let h = (lists.members c).0 inside in
          record { live = h.0; unreached = λ reached. h.1 ((part.members c).1 reached) }),
      (λ h. (lists.members c).1 (h.live, (λ inside. h.unreached ((part.members c).0 inside)))),
    );
  }

  module _ (b : Assignment) (next : ℕ) (agrees : Agrees count a b) (few : count ≤ next) (it : Assertion) (fits : AssertionFits l.types l.vars it) where
    -- what a view of a region means, by the cells that are read
    on-cells : (on : Option (Track × Bool)) (t : StoreMap) → IsRead l.types a at on s t → IsRegionBelow count on →
        WSat (assertion l.types (sight_of l.vars (within on)) view.vars it next) b ↔ SatAll l.types [] t outside it
    on-cells on t read below =
        assertion-means l (within on) a first s t at count (region-shown on t read below) (Says l.types t []) it next b [] outside agrees few
        (none-bound at b next) fits

    pub region-means : (part : Option Track) (on : Region) → IsRegionGiven l.types l.vars a at s count part on →
        WSat (assertion l.types (sight_of l.vars (within (region_on part on))) view.vars it next) b ↔ Sat l.types l.vars [] s on outside it
    region-means part region.All given = on-cells None s refl tt
    region-means part (region.Part roots) given =
        let (x, is, has) = IsSomeAnd-at part (IsGiven l.types l.vars a at s count roots) given in
        let (cells, listed) = part_of l.types l.vars s roots in
        let means = on-cells (Some (x, true)) (store_on s cells) (cells, given-region roots x cells has listed, refl) has.below in
        let on = Sat-on l.types l.vars [] s outside it (region.Part roots) cells listed in
        let same : region_on part (region.Part roots) ≡ Some (x, true) = ap (λ o. option_map_or (λ (p : Track). Some (p, true)) o None) is in
        subst (λ r. WSat (assertion l.types (sight_of l.vars (within r)) view.vars it next) b ↔ Sat l.types l.vars [] s (region.Part roots) outside it)
        (sym same) (
          (λ h. on.1 (means.0 h)),
          (λ h. means.1 (on.0 h)),
        )
    region-means part (region.Rest roots) given =
        let (x, is, has) = IsSomeAnd-at part (IsGiven l.types l.vars a at s count roots) given in
        let (cells, listed) = part_of l.types l.vars s roots in
        let (rest, lists) = rest_of s cells in
        let means = on-cells (Some (x, false)) (store_on s rest) (cells, rest, given-region roots x cells has listed, lists, refl) has.below in
        let on = Sat-on l.types l.vars [] s outside it (region.Rest roots) rest (rest-unreached roots cells rest listed lists) in
        let same : region_on part (region.Rest roots) ≡ Some (x, false) = ap (λ o. option_map_or (λ (p : Track). Some (p, false)) o None) is in
        subst (λ r. WSat (assertion l.types (sight_of l.vars (within r)) view.vars it next) b ↔ Sat l.types l.vars [] s (region.Rest roots) outside it)
        (sym same) (
          (λ h. on.1 (means.0 h)),
          (λ h. means.1 (on.0 h)),
        )
