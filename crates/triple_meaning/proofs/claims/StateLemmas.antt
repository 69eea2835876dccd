-- What the states of symbolic execution see.
use Rattle.std.proofs.Common.{◌≡◌, ◌↔◌, ℕ, ◌<◌, ◌≤◌, List, [], ◌∷◌, map, reverse, option_map, Option, Some, None, ap, subst}
use Rattle.std.proofs.lemmas.List.{reverse-reverse}
use Rattle.std.proofs.lemmas.List.Elements.{All-nil, All-cons, All-head, All-tail}
use Rattle.std.specs.List.{AllByRecursion}
use Rattle.gta_theory.specs.Assignments.{Assignment}
use Rattle.ws2s_core.specs.declared.track.Track.{Track}
use Rattle.ws2s_core.specs.declared.formula.Formula.{Formula}
use Rattle.ws2s_core.specs.Satisfaction.{WSat}
use Rattle.ws2s_forms.specs.Forms.{track}
use Rattle.ws2s_forms.proofs.ConnectivesLemmas.{EachSat, WSat-and_list}
use Rattle.store_core.specs.declared.ids.VarId.{VarId}
use Rattle.store_core.specs.Tables.{TypeEntry, VarEntry}
use Rattle.store_core.specs.Stores.{StoreMap}
use Rattle.store_core.proofs.Growing.{AllByRecursion-weaker}
use Rattle.store_logic.specs.declared.assertion.Assertion.{Assertion}
use Rattle.store_logic.specs.declared.pred.PredDef.{PredDef}
use Rattle.store_logic.specs.declared.region.Region.{Region}
use Rattle.store_logic.specs.declared.region.Region.TheVariants as region
use Rattle.store_logic.specs.Fits.{IsKnownDataVar, AssertionFits}
use Rattle.store_logic.specs.Terms.{outside}
use Rattle.store_logic.specs.Satisfaction.{SatAll, Says}
use Rattle.store_exec.specs.declared.triple.Claim.{Claim}
use Rattle.store_exec.specs.Cuts.{IsMet, AreMet}
use Rattle.store_exec.specs.Fits.{ClaimFits}
use Rattle.tree_encode.specs.Layouts.{LaidOut}
use Rattle.graph_view.specs.declared.view.Event.{Event}
use Rattle.graph_view.specs.Sights.{Sight, var_slots, sight_of}
use Rattle.graph_view.specs.After.{Standing}
use Rattle.graph_meaning.specs.Live.Meaning.{Agrees}
use Rattle.graph_meaning.specs.Walks.Wells.{ShowsWell}
use Rattle.site_list.specs.States.{State, sight, value_of}
use Rattle.site_list.specs.Claims.{assertion, claim}
use Rattle.site_list.specs.Parts.{is_part}
use Rattle.site_list.specs.Cuts.{claims}
use Rattle.triple_meaning.specs.Claims.Given.{IsGiven, IsRegionGiven, IsRegionOf, IsPartGiven, HasNamedPart}
use Rattle.triple_meaning.specs.Claims.Stating.{view_of}
use Rattle.triple_meaning.proofs.claims.BoundLemmas.{some-same, none-some}
use Rattle.triple_meaning.proofs.claims.MeaningLemmas.{assertion-means, none-bound}
use Rattle.triple_meaning.proofs.claims.ClaimLemmas.{region-means}
use Rattle.triple_meaning.proofs.claims.PartLemmas.{part-means}

-- a region of a part that is given
pub region-given : (types : List TypeEntry) (vars : List VarEntry) (a : Assignment) (at : Standing) (s : StoreMap) (count x : ℕ) (named : Option (List VarId))
    (on : Region) → IsRegionOf named on → IsPartGiven types vars a at s count x named →
    IsRegionGiven types vars a at s count (option_map (λ (roots : List VarId). track x) named) on
region-given types vars a at s count x named region.All is given = tt
region-given types vars a at s count x None (region.Part roots) is given = none-some roots is
region-given types vars a at s count x None (region.Rest roots) is given = none-some roots is
region-given types vars a at s count x (Some own) (region.Part roots) is given =
    subst (λ vs. IsGiven types vars a at s count vs (track x)) (some-same own roots is) given
region-given types vars a at s count x (Some own) (region.Rest roots) is given =
    subst (λ vs. IsGiven types vars a at s count vs (track x)) (some-same own roots is) given

module _ (l : LaidOut) (st : State) (a : Assignment) (first s : StoreMap) (at : Standing) (count : ℕ)
    (wells : ShowsWell l (view_of l.types l.vars st) a first s s at count) (b : Assignment) (next : ℕ) (agrees : Agrees count a b) (few : count ≤ next) where
  -- the view looks where the state does
  same-sight : sight_of l.vars (view_of l.types l.vars st) ≡ sight l.vars st
  same-sight = ap (λ (events : List Event). record { slots = var_slots l.vars; events = events; region = None }) (reverse-reverse st.events)

  pub state-assertion : (preds : List PredDef) (it : Assertion) → AssertionFits l.types l.vars it →
      WSat (assertion l.types (sight l.vars st) st.values it next) b ↔ SatAll l.types preds s outside it
  state-assertion preds it fits =
      subst (λ (z : Sight). WSat (assertion l.types z st.values it next) b ↔ SatAll l.types preds s outside it) same-sight
      (assertion-means l (view_of l.types l.vars st) a first s s at count wells (Says l.types s (reverse preds)) it next b [] outside agrees few
      (none-bound at b next) fits)

  pub state-part : (x : ℕ) (roots : List VarId) → x < next → AllByRecursion (IsKnownDataVar l.vars) roots →
      WSat (is_part l.types (sight l.vars st) (map (value_of st.values) roots) x next) b ↔ HasNamedPart l.types l.vars b at (track x) s roots
  state-part x roots below known =
      subst (λ (z : Sight). WSat (is_part l.types z (map (value_of st.values) roots) x next) b ↔ HasNamedPart l.types l.vars b at (track x) s roots) same-sight
      (part-means l (view_of l.types l.vars st) a first s at count wells roots known b next x agrees few below)

  -- each claim's region is given
  pub all-given : (x : ℕ) (named : Option (List VarId)) (asserts : List Claim) → IsPartGiven l.types l.vars a at s count x named →
      AllByRecursion (λ (c : Claim). IsRegionOf named c.region) asserts →
      AllByRecursion (λ (c : Claim). IsRegionGiven l.types l.vars a at s count (option_map (λ (roots : List VarId). track x) named) c.region) asserts
  all-given x named asserts given on =
      AllByRecursion-weaker (λ (c : Claim). IsRegionOf named c.region)
      (λ (c : Claim). IsRegionGiven l.types l.vars a at s count (option_map (λ (roots : List VarId). track x) named) c.region)
      (λ c is. region-given l.types l.vars a at s count x named c.region is given) asserts on

  module _ (part : Option Track) where
    abbrev pub claim-of : Claim → Formula
    claim-of c = claim l.types (sight l.vars st) st.values part c next

    one-claim : (c : Claim) → IsRegionGiven l.types l.vars a at s count part c.region → ClaimFits l.types l.vars c →
        WSat (claim l.types (sight l.vars st) st.values part c next) b ↔ IsMet l.types l.vars s c
    one-claim c given fits =
        subst (λ (z : Sight). WSat (claim l.types z st.values part c next) b ↔ IsMet l.types l.vars s c) same-sight
        (region-means l (view_of l.types l.vars st) a first s at count wells b next agrees few c.assertion fits.assertion part c.region given)

    pub each-claim : (asserts : List Claim) → AllByRecursion (λ c. IsRegionGiven l.types l.vars a at s count part c.region) asserts →
        AllByRecursion (ClaimFits l.types l.vars) asserts → EachSat b (map claim-of asserts) ↔ AreMet l.types l.vars s asserts
    each-claim [] given fits = ((λ h. All-nil (IsMet l.types l.vars s)), (λ h. tt))
    each-claim (c ∷ asserts) given fits =
        let here = one-claim c given.0 fits.0 in
        let rest = each-claim asserts given.1 fits.1 in (
          (λ h. All-cons (IsMet l.types l.vars s) c asserts (here.0 h.0) (rest.0 h.1)),
          (λ h. (here.1 (All-head (IsMet l.types l.vars s) c asserts h), rest.1 (All-tail (IsMet l.types l.vars s) c asserts h))),
        )

  pub state-claims : (x : ℕ) (named : Option (List VarId)) (asserts : List Claim) → IsPartGiven l.types l.vars a at s count x named →
      AllByRecursion (λ (c : Claim). IsRegionOf named c.region) asserts → AllByRecursion (ClaimFits l.types l.vars) asserts →
      WSat (claims l.types l.vars asserts (option_map (λ (roots : List VarId). track x) named) st next) b ↔ AreMet l.types l.vars s asserts
  state-claims x named asserts given on fits =
      let part = option_map (λ (roots : List VarId). track x) named in
      let all = WSat-and_list b next (map (claim-of part) asserts) in
      let each = each-claim part asserts (all-given x named asserts given on) fits in (
        (λ h. each.0 (all.0 h)),
        (λ h. all.1 (each.1 h)),
      )
