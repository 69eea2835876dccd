use Rattle.std.proofs.Common.{◌↔◌, [], List, IsTrue, sym, subst}
use Rattle.std.specs.List.{AllByRecursion}
use Rattle.store_core.specs.declared.ids.VarId.{VarId}
use Rattle.store_core.specs.declared.ids.CellId.{CellId}
use Rattle.store_core.specs.Tables.{TypeEntry, VarEntry}
use Rattle.store_core.specs.Stores.{StoreMap}
use Rattle.routing_walks.specs.Sets.{Lists}
use Rattle.routing_walks.specs.Regions.{IsPart, IsRest}
use Rattle.routing_walks.specs.Reaching.{IsUnreached}
use Rattle.store_logic.specs.declared.region.Region.{Region}
use Rattle.store_logic.specs.declared.region.Region.TheVariants as region
use Rattle.store_logic.specs.Terms.{outside}
use Rattle.store_logic.specs.Fits.{IsKnownDataVar, RegionFits}
use Rattle.store_logic.specs.Satisfaction.{Sat}
use Rattle.store_logic.proofs.RegionLemmas.{Sat-on}
use Rattle.store_sat.proofs.OpenLemmas.{linked}
use Rattle.store_sat.proofs.whole.sat.Goals as goal

-- the rest of a part is what the part's variables don't reach
rest_is : (types : List TypeEntry) (vars : List VarEntry) (s : StoreMap) (roots : List VarId) (cells rest : List CellId) → IsPart types vars s roots cells →
    IsRest s cells rest → Lists (IsUnreached types vars s roots) rest
rest_is types vars s roots cells rest part is = record {
  rising = is.rising;
  members = λ d. (
    λ m. let h = (is.members d).0 m in record { live = h.0; unreached = λ r. h.1 ((part.members d).1 r) },
    λ u. (is.members d).1 (u.live, λ m. u.unreached ((part.members d).0 m)),
  );
}

pub returns-in_ok-truth-in-Part : goal.returns-in_ok-truth-in-Part
returns-in_ok-truth-in-Part c = λ vars table fits.
    let types = c.args.types.now in
    let s = c.args.store.now in
    let roots = c.in-Part.roots in
    let cells = c.in_ok-cells-in-Part.cells in
    let known : AllByRecursion (IsKnownDataVar vars) roots = subst (RegionFits vars) c.in-Part.is fits in
    let part : IsPart types vars s roots cells = subst (λ (rs : List VarId). IsPart types vars s rs cells) c.as_slice.ensures
    (c.in_ok-cells-in-Part.ensures vars table (subst (AllByRecursion (IsKnownDataVar vars)) (sym c.as_slice.ensures) known)) in
    subst (λ (r : Region). IsTrue c.in_ok-truth-in-Part.truth ↔ Sat types vars [] s r outside c.args.assertion.now) (sym c.in-Part.is)
    (linked c.in_ok-truth-in-Part.ensures (Sat-on types vars [] s outside c.args.assertion.now (region.Part roots) cells part))

pub returns-in_ok-truth-in-Rest : goal.returns-in_ok-truth-in-Rest
returns-in_ok-truth-in-Rest c = λ vars table fits.
    let types = c.args.types.now in
    let s = c.args.store.now in
    let roots = c.in-Rest.roots in
    let cells = c.in_ok-cells-in-Rest.cells in
    let rest = c.in_ok-rest-in-Rest.rest in
    let known : AllByRecursion (IsKnownDataVar vars) roots = subst (RegionFits vars) c.in-Rest.is fits in
    let part : IsPart types vars s roots cells = subst (λ (rs : List VarId). IsPart types vars s rs cells) c.as_slice-in-Rest.ensures
    (c.in_ok-cells-in-Rest.ensures vars table (subst (AllByRecursion (IsKnownDataVar vars)) (sym c.as_slice-in-Rest.ensures) known)) in
    subst (λ (r : Region). IsTrue c.in_ok-truth-in-Rest.truth ↔ Sat types vars [] s r outside c.args.assertion.now) (sym c.in-Rest.is)
    (linked c.in_ok-truth-in-Rest.ensures (Sat-on types vars [] s outside c.args.assertion.now (region.Rest roots) rest
    (rest_is types vars s roots cells rest part c.in_ok-rest-in-Rest.ensures)))
