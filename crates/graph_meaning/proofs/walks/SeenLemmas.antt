-- What the formulas of walks and of cell fields say of the store that a view shows.
use Rattle.std.proofs.Common.{◌≡◌, ◌↔◌, ℕ, zero, suc, ◌<◌, ◌≤◌, true, List, [], ◌∷◌, slice_get, Some, None, refl, sym, ap, ◌∙◌, subst}
use Rattle.std.specs.Prelude.{IsSome}
use Rattle.std.specs.List.{AllByRecursion}
use Rattle.std.specs.Option.{option_map_or, option_and_then}
use Rattle.gta_theory.specs.Assignments.{Position, Assignment, IsOnly}
use Rattle.ws2s_core.specs.declared.formula.Formula.TheVariants.{Sub}
use Rattle.ws2s_core.specs.Satisfaction.{WSat}
use Rattle.ws2s_forms.specs.Forms.{track, false_at}
use Rattle.store_core.specs.declared.ids.CellId.{CellId}
use Rattle.store_core.specs.declared.ids.TypeId.{TypeId}
use Rattle.store_core.specs.declared.ids.FieldId.{FieldId}
use Rattle.store_core.specs.declared.kind.FieldKind.{FieldKind}
use Rattle.store_core.specs.declared.kind.FieldKind.TheVariants as field
use Rattle.store_core.specs.declared.kind.Route.{Route}
use Rattle.store_core.specs.declared.value.Value.{Value}
use Rattle.store_core.specs.declared.value.Value.TheVariants as value
use Rattle.store_core.specs.Tables.{TypeEntry, FieldEntry, KnowsRoute, KnowsKind, IsTypeTable, IsTypeEntry, IsFieldEntry, count_of_variants, field_at}
use Rattle.store_core.specs.Stores.{StoreMap, CellEntry, IsLive, cell_of, field_of, field_value, field_class}
use Rattle.store_core.proofs.FittingLemmas.{IsSomeAnd-at, IfSome-at}
use Rattle.routing_walks.specs.Walks.{DataAlone, DataAndPointers, IsFollowed, IsOfType, Walk}
use Rattle.routing_walks.specs.Destinations.{EndsKind, Dest, IsOnlyDestination, IsPointer}
use Rattle.routing_walks.specs.WellFormed.{IsWellFormed}
use Rattle.routing_walks.proofs.LiveLemmas.{IsSome-and, IsLive-field_value}
use Rattle.tree_encode.specs.Layouts.{LaidOut}
use Rattle.tree_encode.specs.Tracks.{bool_track}
use Rattle.tree_encode.proofs.TracksLemmas.{fielded}
use Rattle.tree_store.proofs.SpotsLemmas.{of-some}
use Rattle.tree_formula.specs.WellEncoded.{track_or_first}
use Rattle.graph_view.specs.declared.view.View.{View}
use Rattle.graph_view.specs.Sights.{Sight, var_slots, at_first, sight_of}
use Rattle.graph_view.specs.Live.{has, lives_in}
use Rattle.graph_view.specs.Fields.{first_child, data_names, is_data, is_reference}
use Rattle.graph_view.specs.Routes.{data_names_in, names_by_data, names_in, names, data_walk, walk, destination}
use Rattle.graph_view.specs.After.{Standing, IsAt}
use Rattle.graph_meaning.specs.Live.Meaning.{Agrees, MeansPairs}
use Rattle.graph_meaning.specs.Live.Standing.{Sits, TypeAt, FieldAt}
use Rattle.graph_meaning.specs.Live.Fields.{NamesAt, FieldNamesAt}
use Rattle.graph_meaning.specs.Live.Showing.{Shows}
use Rattle.graph_meaning.proofs.live.AgreeingLemmas.{sat-three}
use Rattle.graph_meaning.proofs.live.ReadLemmas.{is-some, is-none, read-cell}
use Rattle.graph_meaning.proofs.live.TellLemmas.{IsTold, NamesPlaced, told-value}
use Rattle.graph_meaning.proofs.live.FieldsLemmas.{IsTruth, first-truth, first-child}
use Rattle.graph_meaning.proofs.live.SeenLemmas.{value-fits, begin-sits, seen-sits, lives-means, seen-lives_in, seen-is_live, seen-has, first-lives}
use Rattle.graph_meaning.proofs.live.SeenLemmas.{first-lives_in, first-has, seen-is_true, seen-names, seen-data_names, old-named, seen-placed}
use Rattle.graph_meaning.proofs.live.ReadLemmas.{is_live-means}
use Rattle.graph_meaning.proofs.live.SeenLemmas.{first-fitting}
use Rattle.graph_meaning.specs.Walks.Walking.{WalkAt}
use Rattle.graph_meaning.proofs.walks.GroundLemmas.{MeansNames, IsGround, data-test, reference-test}
use Rattle.graph_meaning.proofs.walks.WalkingLemmas.{walk-means}

-- ---- routes of pointer fields

at-place : {X : Type 0} (P : X → Type 0) (xs : List X) (i : ℕ) (x : X) → AllByRecursion P xs → slice_get xs i ≡ Some x → P x
at-place P [] i x all at = cc
at-place P (y ∷ xs) zero x all at = (let same : y ≡ x = cc in subst P same all.0)
at-place P (y ∷ xs) (suc i) x all at = at-place P xs i x all.1 at

pub kind-known : (types : List TypeEntry) (f : FieldId) (entry : FieldEntry) → IsTypeTable types → field_at types f ≡ Some entry → KnowsKind types entry.kind
kind-known types f entry table there =
    let (t, at, same) = fielded types f entry there in
    let typed = at-place (IsTypeEntry types) types f.ty.0 t table.each at in
    let fine = at-place (IsFieldEntry types (count_of_variants t)) t.fields f.index entry typed.fields (ap (λ fs. slice_get fs f.index) (sym same) ∙ there) in
    fine.kind

-- the cell that a field names is the one that stands there
names-there : (t : StoreMap) (at : Standing) (c d : CellId) (f : FieldId) (q : Position) → ((e g : CellId) (r : Position) → IsAt at e r → IsAt at g r → e ≡ g) →
    IsAt at d q → FieldNamesAt t at c f q ↔ (field_value t c f ≡ Some (value.Cell (Some d)))
names-there t at c d f q apart there = (
  (λ (h : FieldNamesAt t at c f q). let (e, also, is) = h in is ∙ ap (λ g. Some (value.Cell (Some g))) (apart e d q also there)),
  (λ is. (d, there, is)),
)

module _ (l : LaidOut) (view : View) (a : Assignment) (first s t : StoreMap) (at : Standing) (count : ℕ) (shows : Shows l view a first s t at count) where
  abbrev looks : Sight
  looks = sight_of l.vars view

  abbrev looks_first : Sight
  looks_first = at_first (var_slots l.vars)

  sits : Sits s at
  sits = seen-sits l view a first s t at count shows

  sits-first : Sits first shows.seen.start
  sits-first = begin-sits l view a first s t at count shows

  read-same : (c : CellId) → IsLive t c → cell_of t c ≡ cell_of s c
  read-same c live = read-cell l.types a at view.region s t c shows.read live

  -- ---- the store that is read

  pub ground : IsGround l.types (sight_of l.vars view) count a s t at
  ground = record {
    there = λ c live. sits.there c (subst IsSome (read-same c live) live);
    one = sits.one;
    apart = sits.apart;
    live = seen-is_live l view a first s t at count shows;
    typed = seen-lives_in l view a first s t at count shows;
    variant = λ v known. lives-means l view a first s t at count shows v known;
    had = λ f entry there. seen-has l view a first s t at count shows f entry there;
    truth = λ f entry b next y p c there kind agrees few less only here live.
        seen-is_true l view a first s t at count shows f entry b next y p c there kind agrees few less only here live;
    fits = λ c f x entry value_is there.
        value-fits l.types l.vars s c f x entry shows.seen.fits
        (sym (ap (λ o. option_and_then (λ (e : CellEntry). field_of e f) o) (read-same c (IsLive-field_value t c f x value_is))) ∙ value_is) there;
  }

  pub by_data : MeansNames l.types t at count a DataAlone (names_by_data l.types (sight_of l.vars view))
  by_data f entry b next y z p q c d there follows agrees few before behind only also here live stands =
      by entry.kind refl follows
    where
      by : (kind : FieldKind) → entry.kind ≡ kind → IsFollowed DataAlone kind →
          WSat (names_by_data l.types (sight_of l.vars view) next f y z) b ↔ (field_value t c f ≡ Some (value.Cell (Some d)))
      by field.Bool is none = absurd none
      by (field.Pointer target along) is none = absurd none
      by (field.Data target) is some =
          let form : names_by_data l.types (sight_of l.vars view) next f y z ≡ data_names l.types (sight_of l.vars view) next f target y z =
          ap (λ o. option_map_or (λ (e : FieldEntry). data_names_in l.types (sight_of l.vars view) next f y z e.kind) o (false_at next)) there
          ∙ ap (λ k. data_names_in l.types (sight_of l.vars view) next f y z k) is in
          let named = seen-data_names l view a first s t at count shows f entry target b next y z p q c there is agrees few before behind only also here live in
          let same = names-there t at c d f q sits.apart stands in
          subst (λ g. WSat g b ↔ (field_value t c f ≡ Some (value.Cell (Some d)))) (sym form) (
            (λ h. same.0 (named.0 h)),
            (λ h. named.1 (same.1 h)),
          )

  pub data_walk-means : (along : Route) → KnowsRoute l.types along →
      MeansPairs count a (data_walk l.types (sight_of l.vars view) along) (WalkAt l.types t at DataAlone along)
  data_walk-means along known =
      walk-means l.types (sight_of l.vars view) count a s t at ground DataAlone is_data (names_by_data l.types (sight_of l.vars view)) data-test by_data by_data
      along known

  -- ---- the first store

  first-bool : (f : FieldId) (entry : FieldEntry) (b : Assignment) (y : ℕ) (p : Position) (c : CellId) → field_at l.types f ≡ Some entry →
      entry.kind ≡ field.Bool → Agrees count a b → IsOnly (b y) p → IsAt shows.seen.start c p → IsLive first c →
      WSat (Sub (track y) (track_or_first (bool_track l.types f))) b ↔ (field_value first c f ≡ Some (value.Bool true))
  first-bool f entry b y p c there kind agrees only here live =
      let told = first-truth l.types l.vars first a shows.seen.start shows.fits shows.backbone shows.assignment shows.seen.stand count shows.free.layout b
      agrees
      y p only f entry there kind in
      let means = told-value f p IsTruth (WSat (Sub (track y) (track_or_first (bool_track l.types f))) b)
      (record { store = first; at = shows.seen.start }) c told here
      live in (
        (λ h. let (w, is, says) = means.0 h in is ∙ ap (λ v. Some v) says),
        (λ e. means.1 (value.Bool true, e, refl)),
      )

  pub first-ground : IsGround l.types (at_first (var_slots l.vars)) count a first first shows.seen.start
  first-ground = record {
    there = sits-first.there;
    one = sits-first.one;
    apart = sits-first.apart;
    live = is_live-means l.types first first shows.seen.start (first-fitting l view a first s t at count shows) count a (at_first (var_slots l.vars))
        (first-lives l view a first s t at count shows);
    typed = first-lives_in l view a first s t at count shows;
    variant = λ v known. first-lives l view a first s t at count shows v known;
    had = λ f entry there. first-has l view a first s t at count shows f entry there;
    truth = λ f entry b next y p c there kind agrees few less only here live. first-bool f entry b y p c there kind agrees only here live;
    fits = λ c f x entry value_is there. value-fits l.types l.vars first c f x entry shows.fits value_is there;
  }

  first-by_data : MeansNames l.types first shows.seen.start count a DataAlone (names_by_data l.types (at_first (var_slots l.vars)))
  first-by_data f entry b next y z p q c d there follows agrees few before behind only also here live stands =
      by entry.kind refl follows
    where
      by : (kind : FieldKind) → entry.kind ≡ kind → IsFollowed DataAlone kind →
          WSat (names_by_data l.types (at_first (var_slots l.vars)) next f y z) b ↔ (field_value first c f ≡ Some (value.Cell (Some d)))
      by field.Bool is none = absurd none
      by (field.Pointer target along) is none = absurd none
      by (field.Data target) is some =
          let form : names_by_data l.types (at_first (var_slots l.vars)) next f y z ≡ first_child l.types (at_first (var_slots l.vars)) next f target y z =
          ap (λ o. option_map_or (λ (e : FieldEntry). data_names_in l.types (at_first (var_slots l.vars)) next f y z e.kind) o (false_at next)) there
          ∙ ap (λ k. data_names_in l.types (at_first (var_slots l.vars)) next f y z k) is in
          let told = first-child l.types l.vars first a shows.seen.start shows.fits shows.backbone shows.seen.stand count b agrees next y z p q few before
          behind
          only also (at_first (var_slots l.vars)) f entry target there is (first-has l view a first s t at count shows f entry there)
          (first-lives_in l view a first s t at count shows target) in
          let means = told-value f p (λ places w. NamesAt places w q) (WSat (first_child l.types (at_first (var_slots l.vars)) next f target y z) b)
          (record { store = first; at = shows.seen.start }) c told here live in
          let same = names-there first shows.seen.start c d f q sits-first.apart stands in
          subst (λ g. WSat g b ↔ (field_value first c f ≡ Some (value.Cell (Some d)))) (sym form) (
            (λ h. let (w, value_is, (e, at_e, says)) = means.0 h in same.0 (e, at_e, value_is ∙ ap (λ v. Some v) says)),
            (λ h. means.1 (value.Cell (Some d), h, (d, stands, refl))),
          )

  pub first-walk : (along : Route) → KnowsRoute l.types along →
      MeansPairs count a (data_walk l.types (at_first (var_slots l.vars)) along) (WalkAt l.types first shows.seen.start DataAlone along)
  first-walk along known =
      walk-means l.types (at_first (var_slots l.vars)) count a first first shows.seen.start first-ground DataAlone is_data
      (names_by_data l.types (at_first (var_slots l.vars))) data-test first-by_data first-by_data along known

  -- ---- pointer fields

  module _ (table : IsTypeTable l.types) (well : IsWellFormed l.types l.vars first) where
    pub is-dest : (f : FieldId) (entry : FieldEntry) (target : TypeId) (along : Route) (c d : CellId) → field_at l.types f ≡ Some entry →
        entry.kind ≡ field.Pointer target along → Dest l.types first c f d ↔ (Walk l.types first DataAlone along c d × IsOfType first target d)
    is-dest f entry target along c d there kind = (
      (λ h.
          let (own, found, ends) = IsSomeAnd-at (field_at l.types f) (λ e. EndsKind l.types first e.kind c d) h in
          let both : Some own ≡ Some entry = sym found ∙ there in
          let same : own ≡ entry = cc in
          let so = subst (λ k. EndsKind l.types first k c d) (ap (λ (e : FieldEntry). e.kind) same ∙ kind) ends in
          (so.walk, so.of_target)),
      (λ h.
          of-some (λ e. EndsKind l.types first e.kind c d) (field_at l.types f) entry there
          (subst (λ k. EndsKind l.types first k c d) (sym kind) (record { walk = h.0; of_target = h.1 }))),
    )

    only-one : (f : FieldId) (entry : FieldEntry) (target : TypeId) (along : Route) (c : CellId) (v : Value) → field_at l.types f ≡ Some entry →
        entry.kind ≡ field.Pointer target along → field_value first c f ≡ Some v → IsOnlyDestination l.types first c f v
    only-one f entry target along c v there kind value_is =
        IfSome-at (field_value first c f) (IsOnlyDestination l.types first c f) v value_is
        (well.pointers c f (of-some (λ e. IsPointer e.kind) (field_at l.types f) entry there (subst IsPointer (sym kind) tt)))

    names-dest : (f : FieldId) (c d : CellId) (v : Value) → IsOnlyDestination l.types first c f v → Dest l.types first c f d ↔ (v ≡ value.Cell (Some d))
    names-dest f c d (value.Bool k) only = absurd only
    names-dest f c d (value.Cells k) only = absurd only
    names-dest f c d (value.Cell None) only = ((λ h. absurd (only d h)), (λ e. let no : ⊥ = cc in absurd no))
    names-dest f c d (value.Cell (Some e)) only = (
      (λ h. ap (λ g. value.Cell (Some g)) (sym (only.1 d h))),
      (λ same. let is : e ≡ d = cc in subst (λ g. Dest l.types first c f g) is only.0),
    )

    pointer-told : (f : FieldId) (entry : FieldEntry) (target : TypeId) (along : Route) (b : Assignment) (next y z : ℕ) (p q : Position) →
        field_at l.types f ≡ Some entry → entry.kind ≡ field.Pointer target along → Agrees count a b → count ≤ next → y < next → z < next → IsOnly (b y) p →
        IsOnly (b z) q → IsTold f p (λ places w. NamesAt places w q) (WSat (destination l.types (at_first (var_slots l.vars)) next f target along y z) b)
        (record { store = first; at = shows.seen.start })
    pointer-told f entry target along b next y z p q there kind agrees few before behind only also =
        let known = (subst (λ k. KnowsKind l.types k) kind (kind-known l.types f entry table there)).1 in
        let whole = sat-three next (has l.types (at_first (var_slots l.vars)) next f y) (data_walk l.types (at_first (var_slots l.vars)) along next y z)
        (lives_in l.types (at_first (var_slots l.vars)) next target z) b (FieldAt first shows.seen.start f p)
        (WalkAt l.types first shows.seen.start DataAlone along p q) (TypeAt first shows.seen.start target q)
        (first-has l view a first s t at count shows f entry there b next y p agrees few before only)
        (first-walk along known b next y z p q agrees few before behind only also)
        (first-lives_in l view a first s t at count shows target b next z q agrees few behind also) in
        record {
          here = λ c v here value_is.
              let only_v = only-one f entry target along c v there kind value_is in (
                (λ h.
                    let (has_f, walks, typed) = whole.0 h in
                    let (e, d, at_p, at_q, walk) = walks in
                    let (g, also_q, of_target) = typed in
                    let walk_c = subst (λ x. Walk l.types first DataAlone along x d) (sits-first.apart e c p at_p here) walk in
                    let of_d = subst (λ x. IsOfType first target x) (sits-first.apart g d q also_q at_q) of_target in
                    (d, at_q, (names-dest f c d v only_v).0 ((is-dest f entry target along c d there kind).1 (walk_c, of_d)))),
                (λ (h : NamesAt shows.seen.start v q).
                    let (d, at_q, is) = h in
                    let ends = (is-dest f entry target along c d there kind).0 ((names-dest f c d v only_v).1 is) in
                    whole.1 ((c, here, is-some (field_value first c f) v value_is), (c, d, here, at_q, ends.0), (d, at_q, ends.1))),
              );
          lacks = λ c here live lacking h.
              let (has_f, walks, typed) = whole.0 h in
              let (e, at_p, some) = has_f in
              is-none (field_value first c f) lacking (subst (λ x. IsSome (field_value first x f)) (sits-first.apart e c p at_p here) some);
          none = λ no h. let (has_f, walks, typed) = whole.0 h in no has_f.0 has_f.1;
        }

    pub pointer-old : (f : FieldId) (entry : FieldEntry) (target : TypeId) (along : Route) → field_at l.types f ≡ Some entry →
        entry.kind ≡ field.Pointer target along → NamesPlaced f first shows.seen.start
    pointer-old f entry target along there kind c d named =
        let only_v = only-one f entry target along c (value.Cell (Some d)) there kind named in
        let ends = (is-dest f entry target along c d there kind).0 only_v.0 in
        sits-first.there d (IsSome-and (cell_of first d) (λ e. e.variant.ty ≡ target) ends.1)

    -- a cell field of a live cell names the cell, live or dead, that stands there
    pub names-told : (f : FieldId) (entry : FieldEntry) (b : Assignment) (next y z : ℕ) (p q : Position) (c : CellId) → field_at l.types f ≡ Some entry →
        IsFollowed DataAndPointers entry.kind → Agrees count a b → count ≤ next → y < next → z < next → IsOnly (b y) p → IsOnly (b z) q → IsAt at c p →
        IsLive t c → WSat (names l.types (sight_of l.vars view) next f y z) b ↔ FieldNamesAt t at c f q
    names-told f entry b next y z p q c there follows agrees few before behind only also here live = by entry.kind refl follows
      where
        form : (kind : FieldKind) → entry.kind ≡ kind → names l.types (sight_of l.vars view) next f y z ≡ names_in l.types (sight_of l.vars view) next f y
            z kind
        form kind is =
            ap (λ o. option_map_or (λ (e : FieldEntry). names_in l.types (sight_of l.vars view) next f y z e.kind) o (false_at next)) there
            ∙ ap (λ k. names_in l.types (sight_of l.vars view) next f y z k) is

        by : (kind : FieldKind) → entry.kind ≡ kind → IsFollowed DataAndPointers kind →
            WSat (names l.types (sight_of l.vars view) next f y z) b ↔ FieldNamesAt t at c f q
        by field.Bool is none = absurd none
        by (field.Data target) is some =
            subst (λ g. WSat g b ↔ FieldNamesAt t at c f q) (sym (form (field.Data target) is))
            (seen-data_names l view a first s t at count shows f entry target b next y z p q c there is agrees few before behind only also here live)
        by (field.Pointer target along) is some =
            subst (λ g. WSat g b ↔ FieldNamesAt t at c f q) (sym (form (field.Pointer target along) is))
            (seen-names l view a first s t at count shows f entry b next y z p q c (ap field_class is) there agrees few only also here live
            (destination l.types (at_first (var_slots l.vars)) next f target along y z) (pointer-old f entry target along there is)
            (pointer-told f entry target along b next y z p q there is agrees few before behind only also))

    pub by_reference : MeansNames l.types t at count a DataAndPointers (names l.types (sight_of l.vars view))
    by_reference f entry b next y z p q c d there follows agrees few before behind only also here live stands =
        let named = names-told f entry b next y z p q c there follows agrees few before behind only also here live in
        let same = names-there t at c d f q sits.apart stands in (
          (λ h. same.0 (named.0 h)),
          (λ h. named.1 (same.1 h)),
        )

    pub all_walk-means : (along : Route) → KnowsRoute l.types along →
        MeansPairs count a (walk l.types (sight_of l.vars view) along) (WalkAt l.types t at DataAndPointers along)
    all_walk-means along known =
        walk-means l.types (sight_of l.vars view) count a s t at ground DataAndPointers is_reference (names l.types (sight_of l.vars view)) reference-test
        by_reference
        by_data along known

    -- the cells that fields of live cells name stand somewhere
    pub named-placed : (f : FieldId) (entry : FieldEntry) → field_at l.types f ≡ Some entry → IsFollowed DataAndPointers entry.kind → NamesPlaced f t at
    named-placed f entry there follows = by entry.kind refl follows
      where
        by : (kind : FieldKind) → entry.kind ≡ kind → IsFollowed DataAndPointers kind → NamesPlaced f t at
        by field.Bool is none = absurd none
        by (field.Data target) is some =
            seen-placed l view a first s t at count shows f entry there (old-named l view a first s t at count shows f entry target there is)
        by (field.Pointer target along) is some =
            seen-placed l view a first s t at count shows f entry there (pointer-old f entry target along there is)
