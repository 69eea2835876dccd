-- The formula of wrong pointer fields.
use Rattle.std.proofs.Common.{◌≡◌, ◌≢◌, ◌↔◌, ◌⊎◌, inl, inr, ℕ, suc, ◌<◌, ◌≤◌, true, IsTrue, IsSomeAnd, List, [], ◌∷◌, flat_map, Option, Some, None, Contains}
use Rattle.std.proofs.Common.{refl, sym, ap, ◌∙◌, subst, arith}
use Rattle.std.specs.Prelude.{IsSome}
use Rattle.std.specs.Option.{option_map_or}
use Rattle.std.proofs.lemmas.Bool.{false≢true}
use Rattle.gta_theory.specs.Assignments.{Position, Assignment, IsOnly}
use Rattle.gta_theory.proofs.ListsLemmas.{Contains-first, Contains-flat_map}
use Rattle.ws2s_core.specs.declared.formula.Formula.{Formula}
use Rattle.ws2s_core.specs.declared.formula.Formula.TheVariants.{And, Not}
use Rattle.ws2s_core.specs.Satisfaction.{WSat}
use Rattle.ws2s_forms.specs.Forms.{ex1, iff, or_list}
use Rattle.ws2s_forms.specs.Places.{with_position}
use Rattle.ws2s_forms.proofs.LawsLemmas.{law-or_list, law-iff}
use Rattle.store_core.specs.declared.ids.CellId.{CellId}
use Rattle.store_core.specs.declared.ids.TypeId.{TypeId}
use Rattle.store_core.specs.declared.ids.FieldId.{FieldId}
use Rattle.store_core.specs.declared.kind.FieldKind.{FieldKind}
use Rattle.store_core.specs.declared.kind.FieldKind.TheVariants as field
use Rattle.store_core.specs.declared.kind.Route.{Route}
use Rattle.store_core.specs.declared.value.Value.{Value}
use Rattle.store_core.specs.declared.value.Value.TheVariants as value
use Rattle.store_core.specs.Tables.{TypeEntry, FieldEntry, KnowsKind, field_at}
use Rattle.store_core.specs.Stores.{StoreMap, IsLive, FieldFits, cell_of, field_value}
use Rattle.store_core.proofs.FittingLemmas.{IsSomeAnd-at}
use Rattle.routing_walks.specs.Walks.{DataAlone, DataAndPointers, IsFollowed, IsOfType, Walk}
use Rattle.routing_walks.specs.Destinations.{EndsKind, Dest, IsOnlyDestination, IsPointer}
use Rattle.routing_walks.specs.WellFormed.{IsWrongField}
use Rattle.routing_walks.specs.CutFaults.{HasWrongField}
use Rattle.routing_walks.proofs.LiveLemmas.{IsSome-and, IsLive-field_value}
use Rattle.routing_walks.specs.Shown.{ShowsWrong}
use Rattle.routing_walks.proofs.DecidedLemmas.{in_none}
use Rattle.routing_walks.proofs.DecidedStores.{only_or_shown}
use Rattle.tree_encode.specs.Layouts.{LaidOut}
use Rattle.tree_store.proofs.SpotsLemmas.{of-some}
use Rattle.tree_store.proofs.ListsLemmas.{flat_map-inside, Contains-one, listed-inside, Contains-listed}
use Rattle.graph_view.specs.declared.view.View.{View}
use Rattle.graph_view.specs.Sights.{Sight, sight_of}
use Rattle.graph_view.specs.Live.{has, lives_in}
use Rattle.graph_view.specs.Fields.{is_reference, has_kind, fields_of_kind}
use Rattle.graph_view.specs.Routes.{names, data_walk, destination}
use Rattle.graph_view.specs.Cuts.{wrong_in, wrong_parts, fields_are_wrong}
use Rattle.graph_view.specs.After.{Standing, IsAt}
use Rattle.graph_meaning.specs.Live.Meaning.{Agrees}
use Rattle.graph_meaning.specs.Live.Standing.{TypeAt, FieldAt}
use Rattle.graph_meaning.specs.Live.Fields.{FieldNamesAt}
use Rattle.graph_meaning.proofs.live.AgreeingLemmas.{Agrees-bound, IsOnly-bound, IsOnly-still, sat-and, sat-not, sat-ex1, sat-three}
use Rattle.graph_meaning.proofs.live.ReadLemmas.{is-some}
use Rattle.graph_meaning.proofs.live.SeenLemmas.{value-fits}
use Rattle.graph_meaning.specs.Walks.Walking.{WalkAt}
use Rattle.graph_meaning.specs.Walks.Wells.{ShowsWell}
use Rattle.graph_meaning.proofs.walks.GroundLemmas.{reference-test}
use Rattle.graph_meaning.proofs.walks.ListedLemmas.{field-listed, listed-field}
use Rattle.graph_meaning.proofs.walks.SeenLemmas.{ground, names-told, named-placed, kind-known, data_walk-means}

-- ---- destinations

module _ (types : List TypeEntry) (s : StoreMap) (f : FieldId) (entry : FieldEntry) (target : TypeId) (along : Route) (there : field_at types f ≡ Some entry)
    (kind : entry.kind ≡ field.Pointer target along) where
  is-dest : (c d : CellId) → Dest types s c f d ↔ (Walk types s DataAlone along c d × IsOfType s target d)
  is-dest c d = (
    (λ h.
        let (own, found, ends) = IsSomeAnd-at (field_at types f) (λ e. EndsKind types s e.kind c d) h in
        let both : Some own ≡ Some entry = sym found ∙ there in
        let same : own ≡ entry = cc in
        let so = subst (λ k. EndsKind types s k c d) (ap (λ (e : FieldEntry). e.kind) same ∙ kind) ends in
        (so.walk, so.of_target)),
    (λ h.
        of-some (λ e. EndsKind types s e.kind c d) (field_at types f) entry there
        (subst (λ k. EndsKind types s k c d) (sym kind) (record { walk = h.0; of_target = h.1 }))),
  )

-- a value that is the only destination names it
names-dest : (types : List TypeEntry) (s : StoreMap) (f : FieldId) (c d : CellId) (v : Value) → IsOnlyDestination types s c f v →
    Dest types s c f d ↔ (v ≡ value.Cell (Some d))
names-dest types s f c d (value.Bool k) only = absurd only
names-dest types s f c d (value.Cells k) only = absurd only
names-dest types s f c d (value.Cell None) only = ((λ h. absurd (only d h)), (λ e. let no : ⊥ = cc in absurd no))
names-dest types s f c d (value.Cell (Some e)) only = (
  (λ h. ap (λ g. value.Cell (Some g)) (sym (only.1 d h))),
  (λ same. let is : e ≡ d = cc in subst (λ g. Dest types s c f g) is only.0),
)

module _ (l : LaidOut) (view : View) (a : Assignment) (first s : StoreMap) (at : Standing) (count : ℕ) (wells : ShowsWell l view a first s s at count)
    (b : Assignment) (next : ℕ) (agrees : Agrees count a b) (few : count ≤ next) where
  abbrev sight : Sight
  sight = sight_of l.vars view

  -- a destination stands there
  abbrev DestAt : CellId → FieldId → Position → Type 0
  DestAt c f q = (d : CellId) × IsAt at d q × Dest l.types s c f d

  -- what the field names there and its destinations there differ
  abbrev Differs : CellId → FieldId → Position → Type 0
  Differs c f q = (FieldNamesAt s at c f q ↔ DestAt c f q) → ⊥

  module _ (f : FieldId) (entry : FieldEntry) (target : TypeId) (along : Route) (there : field_at l.types f ≡ Some entry)
      (kind : entry.kind ≡ field.Pointer target along) where
    abbrev at_two : Position → Position → Assignment
    at_two p q = with_position (with_position b next p) (suc next) q

    abbrev named : Formula
    named = names l.types sight (suc (suc next)) f next (suc next)

    abbrev led : Formula
    led = destination l.types sight (suc (suc next)) f target along next (suc next)

    abbrev whole : Formula
    whole = ex1 next (And (has l.types sight (suc next) f next) (ex1 (suc next) (Not (iff named led))))

    agreed : (p : Position) → Agrees count a (with_position b next p)
    agreed p = Agrees-bound count a b next p agrees few

    agreed_two : (p q : Position) → Agrees count a (at_two p q)
    agreed_two p q = Agrees-bound count a (with_position b next p) (suc next) q (agreed p) (omega (arith, few))

    at_p : (p q : Position) → IsOnly (at_two p q next) p
    at_p p q = IsOnly-still (with_position b next p) (suc next) next q p (omega arith) (IsOnly-bound b next p)

    at_q : (p q : Position) → IsOnly (at_two p q (suc next)) q
    at_q p q = IsOnly-bound (with_position b next p) (suc next) q

    follows : IsFollowed DataAndPointers entry.kind
    follows = subst (λ k. IsFollowed DataAndPointers k) (sym kind) tt

    named-means : (p q : Position) (c : CellId) → IsAt at c p → IsLive s c → WSat named (at_two p q) ↔ FieldNamesAt s at c f q
    named-means p q c here live =
        names-told l view a first s s at count wells.shows wells.table wells.well f entry (at_two p q) (suc (suc next)) next (suc next) p q c there follows
        (agreed_two p q) (omega (arith, few)) (omega arith) (omega arith) (at_p p q) (at_q p q) here live

    led-means : (p q : Position) (c : CellId) → IsAt at c p → IsSome (field_value s c f) → WSat led (at_two p q) ↔ DestAt c f q
    led-means p q c here some =
        let g = ground l view a first s s at count wells.shows in
        let known = (subst (λ k. KnowsKind l.types k) kind (kind-known l.types f entry wells.table there)).1 in
        let three = sat-three (suc (suc next)) (has l.types sight (suc (suc next)) f next) (data_walk l.types sight along (suc (suc next)) next (suc next))
        (lives_in l.types sight (suc (suc next)) target (suc next)) (at_two p q) (FieldAt s at f p) (WalkAt l.types s at DataAlone along p q)
        (TypeAt s at target q)
        (g.had f entry there (at_two p q) (suc (suc next)) next p (agreed_two p q) (omega (arith, few)) (omega arith) (at_p p q))
        (data_walk-means l view a first s s at count wells.shows along known (at_two p q) (suc (suc next)) next (suc next) p q (agreed_two p q)
        (omega (arith, few)) (omega arith) (omega arith) (at_p p q) (at_q p q))
        (g.typed target (at_two p q) (suc (suc next)) (suc next) q (agreed_two p q) (omega (arith, few)) (omega arith) (at_q p q)) in (
          (λ h.
              let (has_f, walks, typed) = three.0 h in
              let (e, d, also, at_d, walk) = walks in
              let (k, at_k, of_target) = typed in (
                d,
                at_d,
                (is-dest l.types s f entry target along there kind c d).1 (
                  subst (λ x. Walk l.types s DataAlone along x d) (g.apart e c p also here) walk,
                  subst (λ x. IsOfType s target x) (g.apart k d q at_k at_d) of_target,
                ),
              )),
          (λ (h : DestAt c f q).
              let (d, at_d, dest) = h in
              let ends = (is-dest l.types s f entry target along there kind c d).0 dest in
              three.1 ((c, here, some), (c, d, here, at_d, ends.0), (d, at_d, ends.1))),
        )

    differs-means : (p q : Position) (c : CellId) → IsAt at c p → IsLive s c → IsSome (field_value s c f) →
        WSat (Not (iff named led)) (at_two p q) ↔ Differs c f q
    differs-means p q c here live some =
        let n = named-means p q c here live in
        let d = led-means p q c here some in
        let both = law-iff named led (at_two p q) (agreed_two p q).finite in
        sat-not (iff named led) (at_two p q) (FieldNamesAt s at c f q ↔ DestAt c f q) (
          (λ h. let k = both.0 h in ((λ x. d.0 (k.0 (n.1 x))), (λ x. n.0 (k.1 (d.1 x))))),
          (λ h. both.1 ((λ x. d.1 (h.0 (n.0 x))), (λ x. n.1 (h.1 (d.0 x))))),
        )

    -- some cell's field differs from its destinations somewhere
    abbrev DiffersSomewhere : Type 0
    DiffersSomewhere = (c : CellId) × (x : Value) × (field_value s c f ≡ Some x) × ((q : Position) × Differs c f q)

    whole-means : WSat whole b ↔ DiffersSomewhere
    whole-means =
        let g = ground l view a first s s at count wells.shows in
        let outer = sat-ex1 next (And (has l.types sight (suc next) f next) (ex1 (suc next) (Not (iff named led)))) b
        (λ p. FieldAt s at f p × WSat (ex1 (suc next) (Not (iff named led))) (with_position b next p)) (λ p.
        sat-and (has l.types sight (suc next) f next) (ex1 (suc next) (Not (iff named led))) (with_position b next p) (FieldAt s at f p)
        (WSat (ex1 (suc next) (Not (iff named led))) (with_position b next p))
        (g.had f entry there (with_position b next p) (suc next) next p (agreed p) (omega (arith, few)) (omega arith) (IsOnly-bound b next p))
        ((λ h. h), (λ h. h))) in
        let each : (p : Position) → WSat (ex1 (suc next) (Not (iff named led))) (with_position b next p)
        ↔ ((q : Position) × WSat (Not (iff named led)) (at_two p q)) = λ p.
        sat-ex1 (suc next) (Not (iff named led)) (with_position b next p) (λ q. WSat (Not (iff named led)) (at_two p q)) (λ q. ((λ h. h), (λ h. h))) in (
          (λ h.
              let (p, parts) = outer.0 h in
              let (c, here, some) = parts.0 in
              let (x, value_is) = valued (field_value s c f) some in
              let (q, holds) = (each p).0 parts.1 in
              (c, x, value_is, (q, (differs-means p q c here (IsLive-field_value s c f x value_is) some).0 holds))),
          (λ (h : DiffersSomewhere).
              let (c, x, value_is, (q, differs)) = h in
              let live = IsLive-field_value s c f x value_is in
              let (p, here) = g.there c live in
              let some = is-some (field_value s c f) x value_is in
              outer.1 (p, ((c, here, some), (each p).1 (q, (differs-means p q c here live some).1 differs)))),
        )
      where
        valued : (o : Option Value) → IsSome o → (x : Value) × (o ≡ Some x)
        valued None h = absurd (false≢true h)
        valued (Some x) h = (x, refl)

    -- ---- values

    differs-wrong : (c : CellId) (x : Value) (q : Position) → field_value s c f ≡ Some x → Differs c f q → IsOnlyDestination l.types s c f x → ⊥
    differs-wrong c x q value_is differs only =
        differs (
          (λ (h : FieldNamesAt s at c f q).
              let (d, at_d, is) = h in
              let both : Some x ≡ Some (value.Cell (Some d)) = sym value_is ∙ is in
              let same : x ≡ value.Cell (Some d) = cc in
              (d, at_d, (names-dest l.types s f c d x only).1 same)),
          (λ (h : DestAt c f q).
              let (d, at_d, dest) = h in (d, at_d, value_is ∙ ap (λ y. Some y) ((names-dest l.types s f c d x only).0 dest))),
        )

    dest-live : (c d : CellId) → Dest l.types s c f d → IsLive s d
    dest-live c d dest = IsSome-and (cell_of s d) (λ e. e.variant.ty ≡ target) ((is-dest l.types s f entry target along there kind c d).0 dest).1

    -- where the value isn't a destination, or another cell is one, they differ
    shown-differs : (c : CellId) (x : Value) → field_value s c f ≡ Some x → FieldFits s (field.Pointer target along) x → ShowsWrong l.types s c f x →
        (q : Position) × Differs c f q
    shown-differs c (value.Bool k) value_is fits shown = absurd fits
    shown-differs c (value.Cells k) value_is fits shown = absurd fits
    shown-differs c (value.Cell None) value_is fits shown =
        let g = ground l view a first s s at count wells.shows in
        let (q, at_q) = g.there shown.cell (dest-live c shown.cell shown.dest) in (
          q,
          (λ same.
              let (d, at_d, is) = same.1 (shown.cell, at_q, shown.dest) in
              let both : Some (value.Cell None) ≡ Some (value.Cell (Some d)) = sym value_is ∙ is in
              let no : ⊥ = cc in no),
        )
    shown-differs c (value.Cell (Some d)) value_is fits (inl never) =
        let g = ground l view a first s s at count wells.shows in
        let (q, at_q) = named-placed l view a first s s at count wells.shows wells.table wells.well f entry there follows c d value_is in (
          q,
          (λ same.
              let (e, at_e, dest) = same.0 (d, at_q, value_is) in
              never (subst (λ z. Dest l.types s c f z) (g.apart e d q at_e at_q) dest)),
        )
    shown-differs c (value.Cell (Some d)) value_is fits (inr another) =
        let g = ground l view a first s s at count wells.shows in
        let (q, at_q) = g.there another.other (dest-live c another.other another.dest) in (
          q,
          (λ same.
              let (e, at_e, is) = same.1 (another.other, at_q, another.dest) in
              let both : Some (value.Cell (Some d)) ≡ Some (value.Cell (Some e)) = sym value_is ∙ is in
              let d_is : d ≡ e = cc in
              another.apart (sym (g.apart e another.other q at_e at_q) ∙ sym d_is)),
        )

    differs-field : DiffersSomewhere → HasWrongField l.types s
    differs-field (c, x, value_is, (q, differs)) = record {
      cell = c;
      field = f;
      wrong = record {
        kind = of-some (λ e. IsPointer e.kind) (field_at l.types f) entry there (subst IsPointer (sym kind) tt);
        wrong = of-some (λ y. IsOnlyDestination l.types s c f y → ⊥) (field_value s c f) x value_is (differs-wrong c x q value_is differs);
      };
    }

    field-differs : (c : CellId) → IsWrongField l.types s c f → DiffersSomewhere
    field-differs c wrong =
        let (x, value_is, not_only) = IsSomeAnd-at (field_value s c f) (λ y. IsOnlyDestination l.types s c f y → ⊥) wrong.wrong in
        let fits = subst (λ k. FieldFits s k x) kind (value-fits l.types l.vars s c f x entry wells.shows.seen.fits value_is there) in
        elim (only_or_shown l.types s c f x) as (λ _. DiffersSomewhere) [
          | inl only ↦ absurd (not_only only)
          | inr shown ↦ (c, x, value_is, shown-differs c x value_is fits shown)
        ]

  -- ---- all fields

  abbrev fields : List FieldId
  fields = fields_of_kind l.types is_reference

  from-field : (f : FieldId) (g : Formula) → Contains (wrong_parts l.types sight next f) g → WSat g b → HasWrongField l.types s
  from-field f g inside holds =
      let (entry, there, listed) = listed-inside (λ e. wrong_in l.types sight next f e.kind) (field_at l.types f) g inside in
      by entry there entry.kind refl listed
    where
      by : (entry : FieldEntry) → field_at l.types f ≡ Some entry → (kind : FieldKind) → entry.kind ≡ kind → Contains (wrong_in l.types sight next f kind) g →
          HasWrongField l.types s
      by entry there field.Bool is listed = absurd (in_none g listed)
      by entry there (field.Data target) is listed = absurd (in_none g listed)
      by entry there (field.Pointer target along) is listed =
          differs-field f entry target along there is ((whole-means f entry target along there is).0
          (subst (λ k. WSat k b) (sym (Contains-one (whole f entry target along there is) g listed)) holds))

  to-field : (c : CellId) (f : FieldId) → IsWrongField l.types s c f → (g : Formula) × Contains (flat_map (wrong_parts l.types sight next) fields) g × WSat g b
  to-field c f wrong =
      let (entry, there, pointer) = IsSomeAnd-at (field_at l.types f) (λ e. IsPointer e.kind) wrong.kind in by entry there entry.kind refl pointer
    where
      by : (entry : FieldEntry) → field_at l.types f ≡ Some entry → (kind : FieldKind) → entry.kind ≡ kind → IsPointer kind →
          (g : Formula) × Contains (flat_map (wrong_parts l.types sight next) fields) g × WSat g b
      by entry there field.Bool is none = absurd none
      by entry there (field.Data target) is none = absurd none
      by entry there (field.Pointer target along) is some =
          let g = whole f entry target along there is in
          let listed : Contains (wrong_in l.types sight next f entry.kind) g =
          subst (λ k. Contains (wrong_in l.types sight next f k) g) (sym is) (Contains-first g []) in (
            g,
            Contains-flat_map (wrong_parts l.types sight next) fields f g
                (field-listed l.types (has_kind is_reference) f entry there (ap is_reference is))
                (Contains-listed (λ e. wrong_in l.types sight next f e.kind) (field_at l.types f) entry g there listed),
            (whole-means f entry target along there is).1 (field-differs f entry target along there is c wrong),
          )

  pub wrong-means : WSat (fields_are_wrong l.types sight next) b ↔ HasWrongField l.types s
  wrong-means =
      let some = law-or_list next (flat_map (wrong_parts l.types sight next) fields) b agrees.finite in (
        (λ h.
            let (g, listed, holds) = some.0 h in
            let (f, among, inside) = flat_map-inside (wrong_parts l.types sight next) fields g listed in
            from-field f g inside holds),
        (λ h. some.1 (to-field h.cell h.field h.wrong)),
      )
