-- The start of a triple, on assignments that have what defines the made tracks.
use Rattle.std.proofs.Common.{◌≡◌, ◌↔◌, ℕ, ◌<◌, ◌≤◌, List, [], ◌++◌, length, map, All, Option, Some, None, IfSome, sym, ap, ◌∙◌, subst, arith, length-append}
use Rattle.std.specs.List.{AllByRecursion}
use Rattle.std.specs.Option.{option_map_or}
use Rattle.std.proofs.lemmas.List.{reverse-reverse}
use Rattle.std.proofs.lemmas.List.Elements.{All-head}
use Rattle.gta_theory.specs.Assignments.{Assignment}
use Rattle.ws2s_core.specs.Satisfaction.{WSat}
use Rattle.ws2s_forms.specs.Forms.{track}
use Rattle.store_core.specs.declared.ids.CellId.{CellId}
use Rattle.store_core.specs.declared.ids.VarId.{VarId}
use Rattle.store_core.specs.declared.kind.VarKind.{VarKind}
use Rattle.store_core.specs.declared.kind.VarKind.TheVariants as var
use Rattle.store_core.specs.declared.value.Value.TheVariants as value
use Rattle.store_core.specs.Tables.{TypeEntry, VarEntry, var_at}
use Rattle.store_core.specs.Stores.{StoreMap, IsLive, cell_of, var_value}
use Rattle.store_core.proofs.FittingLemmas.{IfSome-at, IfSome-from, IsSomeAnd-at}
use Rattle.routing_walks.specs.WellFormed.{IsDataVar, VarHoldsLive, IsWellFormed}
use Rattle.routing_walks.proofs.LiveLemmas.{IsSome-and}
use Rattle.store_logic.specs.Fits.{IsKnownDataVar}
use Rattle.store_exec.specs.declared.triple.Triple.{Triple}
use Rattle.store_exec.specs.Cuts.{AreMet, Escapes}
use Rattle.tree_encode.specs.Tracks.{track_count}
use Rattle.graph_view.specs.declared.view.Event.{Event}
use Rattle.graph_view.specs.Sights.{Sight, var_slots, sight_of}
use Rattle.graph_view.specs.After.{Standing}
use Rattle.graph_meaning.proofs.live.AgreeingLemmas.{Agrees-itself}
use Rattle.site_list.specs.States.{Text, sight, value_of, next_track}
use Rattle.site_list.specs.Parts.{is_part}
use Rattle.site_list.specs.Cuts.{with_part}
use Rattle.site_list.specs.Triples.{at_start, started, walked, start_holds}
use Rattle.triple_meaning.specs.Sites.Seeing.{IsOver, HasRoom, AreDefined, Sees}
use Rattle.triple_meaning.proofs.sites.PlacesLemmas.{All-left}
use Rattle.triple_meaning.proofs.sites.LookingLemmas.{layout_of}
use Rattle.triple_meaning.proofs.sites.BeginningLemmas.{begins}
use Rattle.triple_meaning.proofs.sites.CodesLemmas.{code-meant}
use Rattle.triple_meaning.specs.Claims.Given.{IsPartGiven, IsGiven, NameLive}
use Rattle.triple_meaning.specs.Claims.Stating.{view_of}
use Rattle.triple_meaning.proofs.claims.SetLemmas.{all-in}
use Rattle.triple_meaning.proofs.claims.PartLemmas.{live-part-means}
use Rattle.triple_meaning.proofs.claims.StartLemmas.{start-means}
use Rattle.triple_meaning.proofs.triples.JoinLemmas.{assertions-meant, cuts-meant}
use Rattle.triple_meaning.specs.Failing.Satisfying.{IsPosed}
use Rattle.triple_meaning.proofs.failing.OverLemmas.{wells}

-- data variables of a well-formed store name live cells alone
kind-live : (s : StoreMap) (kind : VarKind) (c : CellId) → IsDataVar kind → VarHoldsLive s kind (value.Cell (Some c)) → IsLive s c
kind-live s var.Bool c is holds = absurd is
kind-live s (var.Data ty) c is holds = IsSome-and (cell_of s c) (λ e. e.variant.ty ≡ ty) holds
kind-live s (var.Pointer ty) c is holds = absurd is
kind-live s (var.LogicSet ty) c is holds = absurd is
kind-live s var.LogicBool c is holds = absurd is

names-live : (types : List TypeEntry) (vars : List VarEntry) (s : StoreMap) (roots : List VarId) → IsWellFormed types vars s →
    AllByRecursion (IsKnownDataVar vars) roots → NameLive s roots
names-live types vars s roots well known c (v, listed, holds) =
    let (entry, there, is_data) = IsSomeAnd-at (var_at vars v) (λ (e : VarEntry). IsDataVar e.kind) (all-in (IsKnownDataVar vars) roots v known listed) in
    let each = IfSome-at (var_at vars v) (λ (e : VarEntry). IfSome (var_value s v) (VarHoldsLive s e.kind)) entry there (well.backbone.cell_vars v) in
    kind-live s entry.kind c is_data (IfSome-at (var_value s v) (VarHoldsLive s entry.kind) (value.Cell (Some c)) holds each)

module _ (types : List TypeEntry) (vars : List VarEntry) (t : Triple) (posed : IsPosed types vars t) (b : Assignment) (s : StoreMap)
    (over : IsOver types vars b s) (next : ℕ) (room : HasRoom types vars next (walked types vars t)) (defined : AreDefined next b (walked types vars t)) where
  few : track_count types vars ≤ next
  few = omega (arith, room)

  -- what the start made is among what the walk made
  made-first : (made : List Text) × ((walked types vars t).defined ≡ (started types vars t.start).defined ++ made)
  made-first =
      let walk = code-meant types vars (assertions-meant types vars) t.cuts (cuts-meant types vars t posed.fits posed.cuts) t.code posed.fits.code
      (started types vars t.start) in
      (walk.made, walk.defined)

  start-defined : AreDefined next b (started types vars t.start)
  start-defined =
      let (made, is) = made-first in
      All-left (λ (text : Text). WSat (text next) b) (started types vars t.start).defined made
      (subst (λ texts. All (λ (text : Text). WSat (text next) b) texts) is defined)

  -- the track of the returned part is below the next one
  part-room : (roots : List VarId) → t.start.returned ≡ Some roots → track_count types vars < next
  part-room roots is =
      let (made, all) = made-first in
      let long = ap (λ texts. length texts) all ∙ length-append (started types vars t.start).defined made in
      let one : length ((started types vars t.start).defined) ≡ 1 =
      ap (λ o. length ((option_map_or (λ rs. with_part types vars rs (at_start types vars)) o (at_start types vars)).defined)) is in
      omega (arith, room, long, one)

  -- the track of the returned part has it
  module _ (at : Standing) (sees : Sees types vars next b s (at_start types vars) s at) (roots : List VarId) (is : t.start.returned ≡ Some roots) where
    known : AllByRecursion (IsKnownDataVar vars) roots
    known = subst (λ (o : Option (List VarId)). IfSome o (AllByRecursion (IsKnownDataVar vars))) is posed.fits.start.returned

    -- the view looks where the state does
    same-sight : sight_of vars (view_of types vars (at_start types vars)) ≡ sight vars (at_start types vars)
    same-sight = ap (λ (events : List Event). record { slots = var_slots vars; events = events; region = None }) (reverse-reverse (at_start types vars).events)

    part-text : WSat (is_part types (sight vars (at_start types vars)) (map (value_of (at_start types vars).values) roots) (track_count types vars) next) b
    part-text =
        let text : ℕ → Text = is_part types (sight vars (at_start types vars)) (map (value_of (at_start types vars).values) roots) in
        let all : AreDefined next b (with_part types vars roots (at_start types vars)) =
        subst (λ o. AreDefined next b (option_map_or (λ rs. with_part types vars rs (at_start types vars)) o (at_start types vars))) is start-defined in
        let own = All-head (λ (x : Text). WSat (x next) b) (text (next_track types vars (at_start types vars))) [] all in
        let same : next_track types vars (at_start types vars) ≡ track_count types vars = omega arith in
        subst (λ n. WSat (is_part types (sight vars (at_start types vars)) (map (value_of (at_start types vars).values) roots) n next) b) same own

    part-given : IsGiven types vars b at s next roots (track (track_count types vars))
    part-given =
        let view = view_of types vars (at_start types vars) in
        let room_for = part-room roots is in
        let there = subst (λ (k : Sight). WSat (is_part types k (map (value_of (at_start types vars).values) roots) (track_count types vars) next) b)
        (sym same-sight) part-text in
        record {
          below = room_for;
          has = (live-part-means (layout_of types vars) view b s s at next (wells types vars next b s (at_start types vars) s at sees) roots known b next
              (track_count types vars) (Agrees-itself next b over.finite) (omega arith) room_for (names-live types vars s roots over.well known)).0 there;
        }

  -- the start holds, as a formula, exactly where it holds of the store
  pub start-told : WSat (start_holds types vars t.start next) b
      ↔ (AreMet types vars s t.start.asserts × IfSome t.start.returned (λ part. Escapes types vars s part t.start.inside → ⊥))
  start-told =
      let (at, sees) = begins types vars b s next over few in
      let given : IsPartGiven types vars b at s next (track_count types vars) t.start.returned =
      IfSome-from t.start.returned (λ roots. IsGiven types vars b at s next roots (track (track_count types vars))) (λ roots is. part-given at sees roots is) in
      start-means (layout_of types vars) b s s at next (wells types vars next b s (at_start types vars) s at sees) b next (Agrees-itself next b over.finite)
      (omega arith) t.start given posed.start posed.fits.start.asserts
