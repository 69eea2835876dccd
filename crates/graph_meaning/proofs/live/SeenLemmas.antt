-- What the formulas of live cells and of bool and data fields say of the store that a view shows.
use Rattle.std.proofs.Common.{◌≡◌, ◌↔◌, ℕ, ◌<◌, ◌≤◌, true, IsSomeAnd, IfSome, List, [], ◌∷◌, ◌++◌, Option, Some, None, All, refl, sym, ap, ◌∙◌, subst}
use Rattle.std.specs.Prelude.{IsSome, reverse}
use Rattle.std.specs.Ordering.{nat_cmp}
use Rattle.std.specs.FinMap.{FinMap, get}
use Rattle.std.specs.Option.{option_and_then}
use Rattle.std.proofs.lemmas.List.{reverse-append}
use Rattle.std.proofs.lemmas.List.Elements.{All-head, All-tail}
use Rattle.gta_theory.specs.Assignments.{Position, Assignment, IsOnly}
use Rattle.ws2s_core.specs.declared.formula.Formula.{Formula}
use Rattle.ws2s_core.specs.declared.formula.Formula.TheVariants.{Sub}
use Rattle.ws2s_core.specs.Satisfaction.{WSat}
use Rattle.ws2s_forms.specs.Forms.{track}
use Rattle.store_core.specs.declared.ids.CellId.{CellId}
use Rattle.store_core.specs.declared.ids.TypeId.{TypeId}
use Rattle.store_core.specs.declared.ids.FieldId.{FieldId}
use Rattle.store_core.specs.declared.ids.VariantId.{VariantId}
use Rattle.store_core.specs.declared.kind.FieldKind.{FieldKind}
use Rattle.store_core.specs.declared.kind.FieldKind.TheVariants as field
use Rattle.store_core.specs.declared.value.Class.TheVariants.{Reference}
use Rattle.store_core.specs.declared.value.Value.{Value}
use Rattle.store_core.specs.declared.value.Value.TheVariants as value
use Rattle.store_core.specs.Tables.{TypeEntry, FieldEntry, VarEntry, field_at, variant_count}
use Rattle.store_core.specs.Stores.{StoreMap, CellEntry, IsLive, Fits, FieldFits, cell_of, field_of, field_value, field_class}
use Rattle.store_core.proofs.FittingLemmas.{IfSome-at, slot_at_value}
use Rattle.routing_walks.specs.WellFormed.{FieldHoldsLive}
use Rattle.routing_walks.proofs.LiveLemmas.{IsSome-and, IsLive-field_value}
use Rattle.tree_encode.specs.Layouts.{LaidOut}
use Rattle.tree_encode.specs.Tracks.{bool_track}
use Rattle.tree_formula.specs.WellEncoded.{track_or_first}
use Rattle.graph_view.specs.declared.view.Sym.{Sym}
use Rattle.graph_view.specs.declared.view.Event.{Event}
use Rattle.graph_view.specs.declared.view.View.{View}
use Rattle.graph_view.specs.Syms.{is_in, truth}
use Rattle.graph_view.specs.Sights.{Sight, var_slots, at_first, sight_of}
use Rattle.graph_view.specs.Live.{lives, lives_in, has, is_live, is_dead, live_of}
use Rattle.graph_view.specs.Fields.{after, first_child, data_names, is_true}
use Rattle.graph_view.specs.After.{Standing, IsAt, StandsFor, StandsForCell, Stood, IsSymBelow, IsEventBelow, AreEventsBelow}
use Rattle.graph_meaning.specs.Live.Meaning.{Agrees, MeansHere}
use Rattle.graph_meaning.specs.Live.Standing.{Sits, LiveAt, VariantAt, TypeAt, FieldAt}
use Rattle.graph_meaning.specs.Live.Fields.{NamesAt, FieldNamesAt}
use Rattle.graph_meaning.specs.Live.Showing.{Shows}
use Rattle.graph_meaning.proofs.live.LiveLemmas.{first-means, live_of-means, variant-kept}
use Rattle.graph_meaning.proofs.live.ReadLemmas.{in_region-means, read-cell, read-fitting, AreFitting, lives_in-means, is_live-means, has-means, is_dead-means}
use Rattle.graph_meaning.proofs.live.StandingLemmas.{Sits-first, Sits-seen}
use Rattle.graph_meaning.proofs.live.TellLemmas.{IsSaid, IsTold, NamesPlaced, NamesPlaced-led, told-value, after-told}
use Rattle.graph_meaning.proofs.live.FieldsLemmas.{IsTruth, truth-said, truth-means, names-said, names-means, first-truth, first-child}

-- ---- tracks in use

events-append : (n : ℕ) (xs ys : List Event) → AreEventsBelow n xs → AreEventsBelow n ys → AreEventsBelow n (xs ++ ys)
events-append n [] ys one other = other
events-append n (e ∷ xs) ys one other = (one.0, events-append n xs ys one.1 other)

pub events-below : (n : ℕ) (events : List Event) → All (IsEventBelow n) events → AreEventsBelow n (reverse events)
events-below n [] all = tt
events-below n (e ∷ events) all =
    subst (AreEventsBelow n) (sym (reverse-append (e ∷ []) events))
    (events-append n (reverse events) (e ∷ []) (events-below n events (All-tail (IsEventBelow n) e events all)) (All-head (IsEventBelow n) e events all, tt))

-- ---- values that fit their fields

pub value-fits : (types : List TypeEntry) (vars : List VarEntry) (s : StoreMap) (c : CellId) (f : FieldId) (x : Value) (entry : FieldEntry) → Fits types
    vars s →
    field_value s c f ≡ Some x → field_at types f ≡ Some entry → FieldFits s entry.kind x
value-fits types vars s c f x entry fits value_is there =
    let slot = slot_at_value types vars s fits c f x value_is in
    let both : Some slot.entry ≡ Some entry = sym slot.at ∙ there in
    let same : slot.entry ≡ entry = cc in
    subst (λ (e : FieldEntry). FieldFits s e.kind x) same slot.fits

-- ---- the store that is seen

module _ (l : LaidOut) (view : View) (a : Assignment) (first s t : StoreMap) (at : Standing) (count : ℕ) (shows : Shows l view a first s t at count) where
  abbrev pub sight : Sight
  sight = sight_of l.vars view

  abbrev pub begin : Stood
  begin = record { store = first; at = shows.seen.start }

  abbrev pub finish : Stood
  finish = record { store = shows.seen.ends; at = at }

  pub begin-sits : Sits first shows.seen.start
  begin-sits = Sits-first l.types l.vars first shows.seen.start shows.fits shows.backbone shows.seen.stand

  pub seen-sits : Sits s at
  seen-sits = Sits-seen l.types l.vars view.vars (reverse view.events) a first s at shows.fits shows.backbone shows.seen

  below : AreEventsBelow count (reverse view.events)
  below = events-below count view.events shows.free.events

  pub ends-cell : (c : CellId) → cell_of shows.seen.ends c ≡ cell_of s c
  ends-cell c = sym (ap (λ (m : FinMap nat_cmp CellEntry). get m c.0) shows.seen.cells)

  pub fitting : AreFitting l.types s t
  fitting = read-fitting l.types l.vars a at view.region s t shows.seen.fits shows.read

  -- ---- live cells

  pub lives-means : (v : VariantId) → v.index < variant_count l.types v.ty → MeansHere count a (λ next y. lives l.types sight next v y) (VariantAt t at v)
  lives-means v known b next y p agrees few less only =
      let ends = live_of-means l.types (var_slots l.vars) count a v begin begin-sits
      (first-means l.types l.vars first a shows.seen.start shows.fits shows.assignment shows.seen.stand count v shows.free.layout known)
      (reverse view.events) finish shows.seen.lead below b next y p agrees few less only in
      in_region-means l.types a at s seen-sits v p count b y view.region t (live_of l.types next (var_slots l.vars) v y (reverse view.events)) agrees only
      shows.free.region shows.read (
        (λ h. let (c, here, of_v) = ends.0 h in (c, here, (variant-kept s shows.seen.ends v c (ends-cell c)).0 of_v)),
        (λ (h : VariantAt s at v p). let (c, here, of_v) = h in ends.1 (c, here, (variant-kept s shows.seen.ends v c (ends-cell c)).1 of_v)),
      )

  pub seen-lives_in : (ty : TypeId) → MeansHere count a (λ next y. lives_in l.types sight next ty y) (TypeAt t at ty)
  seen-lives_in ty = lives_in-means l.types s t at fitting count a sight lives-means ty

  pub seen-is_live : MeansHere count a (λ next y. is_live l.types sight next y) (LiveAt t at)
  seen-is_live = is_live-means l.types s t at fitting count a sight lives-means

  pub seen-has : (f : FieldId) (entry : FieldEntry) → field_at l.types f ≡ Some entry → MeansHere count a (λ next y. has l.types sight next f y)
      (FieldAt t at f)
  seen-has f entry there = has-means l.types s t at fitting count a sight lives-means f entry shows.owners there

  pub seen-is_dead : (b : Assignment) (next : ℕ) (u : Sym) (o : Option CellId) → Agrees count a b → count ≤ next → IsSymBelow count u → StandsForCell a at u o →
      WSat (is_dead l.types sight next u) b ↔ IsSomeAnd o (λ c. (p : Position) × (IsAt at c p × (IsLive t c → ⊥)))
  seen-is_dead b next u o agrees few under stands =
      is_dead-means l.types s t at fitting count a sight lives-means b next u o seen-sits.one seen-sits.apart agrees few under stands

  -- ---- before all events

  pub first-lives : (v : VariantId) → v.index < variant_count l.types v.ty →
      MeansHere count a (λ next y. lives l.types (at_first (var_slots l.vars)) next v y) (VariantAt first shows.seen.start v)
  first-lives v known =
      first-means l.types l.vars first a shows.seen.start shows.fits shows.assignment shows.seen.stand count v shows.free.layout known

  pub first-fitting : AreFitting l.types first first
  first-fitting = read-fitting l.types l.vars a shows.seen.start None first first shows.fits refl

  pub first-lives_in : (ty : TypeId) → MeansHere count a (λ next y. lives_in l.types (at_first (var_slots l.vars)) next ty y) (TypeAt first shows.seen.start ty)
  first-lives_in ty = lives_in-means l.types first first shows.seen.start first-fitting count a (at_first (var_slots l.vars)) first-lives ty

  pub first-has : (f : FieldId) (entry : FieldEntry) → field_at l.types f ≡ Some entry →
      MeansHere count a (λ next y. has l.types (at_first (var_slots l.vars)) next f y) (FieldAt first shows.seen.start f)
  first-has f entry there =
      has-means l.types first first shows.seen.start first-fitting count a (at_first (var_slots l.vars)) first-lives f entry shows.owners there

  -- ---- fields of live cells

  ends-same : (c : CellId) → IsLive t c → cell_of shows.seen.ends c ≡ cell_of t c
  ends-same c live = ends-cell c ∙ sym (read-cell l.types a at view.region s t c shows.read live)

  ends-live : (c : CellId) → IsLive t c → IsLive shows.seen.ends c
  ends-live c live = subst IsSome (sym (ends-same c live)) live

  ends-value : (c : CellId) (f : FieldId) → IsLive t c → field_value shows.seen.ends c f ≡ field_value t c f
  ends-value c f live = ap (λ o. option_and_then (λ (e : CellEntry). field_of e f) o) (ends-same c live)

  -- what is told of a live cell's field is what is read
  pub told-read : (f : FieldId) (p : Position) (Says : Standing → Value → Type 0) (Holds : Type 0) (c : CellId) → IsTold f p Says Holds finish →
      IsAt at c p → IsLive t c → Holds ↔ ((y : Value) × (field_value t c f ≡ Some y) × Says at y)
  told-read f p Says Holds c told here live =
      let means = told-value f p Says Holds finish c told here (ends-live c live) in
      let same = ends-value c f live in (
        (λ h. let (y, is, says) = means.0 h in (y, sym same ∙ is, says)),
        (λ h. means.1 (h.0, same ∙ h.1, h.2)),
      )

  -- a bool field of a live cell is true
  pub seen-is_true : (f : FieldId) (entry : FieldEntry) (b : Assignment) (next y : ℕ) (p : Position) (c : CellId) → field_at l.types f ≡ Some entry →
      entry.kind ≡ field.Bool → Agrees count a b → count ≤ next → y < next → IsOnly (b y) p → IsAt at c p → IsLive t c →
      WSat (is_true l.types sight next f y) b ↔ (field_value t c f ≡ Some (value.Bool true))
  seen-is_true f entry b next y p c there kind agrees few less only here live =
      let said : IsSaid entry.kind IsTruth = subst (λ k. IsSaid k IsTruth) (sym kind) truth-said in
      let told = after-told l.types (var_slots l.vars) count a b next y p agrees few only f entry there IsTruth said (truth next)
      (λ r places u w sits stands fits under.
      truth-means count a b next places r u w agrees few stands (subst (λ k. FieldFits r k w) kind fits) under)
      (Sub (track y) (track_or_first (bool_track l.types f))) begin begin-sits
      (λ d e named. absurd (no-cell d e named))
      (first-truth l.types l.vars first a shows.seen.start shows.fits shows.backbone shows.assignment shows.seen.stand count shows.free.layout b agrees y p only
      f entry there kind)
      (reverse view.events) finish shows.seen.lead below in
      let means = told-read f p IsTruth (WSat (is_true l.types sight next f y) b) c told here live in (
        (λ h. let (y, is, says) = means.0 h in is ∙ ap (λ w. Some w) says),
        (λ e. means.1 (value.Bool true, e, refl)),
      )
    where
      no-cell : (d e : CellId) → field_value first d f ≡ Some (value.Cell (Some e)) → ⊥
      no-cell d e named = (let fits = value-fits l.types l.vars first d f (value.Cell (Some e)) entry shows.fits named there in subst
          (λ k. FieldFits first k (value.Cell (Some e))) kind fits)

  -- a cell field of a live cell names the cell, live or dead, that stands there, where it does so before all events
  pub seen-names : (f : FieldId) (entry : FieldEntry) (b : Assignment) (next y z : ℕ) (p q : Position) (c : CellId) → field_class entry.kind ≡ Reference →
      field_at l.types f ≡ Some entry → Agrees count a b → count ≤ next → IsOnly (b y) p → IsOnly (b z) q → IsAt at c p → IsLive t c →
      (start : Formula) → NamesPlaced f first shows.seen.start → IsTold f p (λ places w. NamesAt places w q) (WSat start b) begin →
      WSat (after next f y (is_in next z) start (reverse view.events)) b ↔ FieldNamesAt t at c f q
  seen-names f entry b next y z p q c reference there agrees few only also here live start old base =
      let told = after-told l.types (var_slots l.vars) count a b next y p agrees few only f entry there (λ places w. NamesAt places w q)
      (names-said entry.kind q reference) (is_in next z)
      (λ r places u w sits stands fits under. by-value entry.kind reference r places u w sits stands fits under)
      start begin begin-sits old base (reverse view.events) finish shows.seen.lead below in
      let means = told-read f p (λ places w. NamesAt places w q) (WSat (after next f y (is_in next z) start (reverse view.events)) b) c told here live in (
        (λ h. let (w, is, (d, at_d, same)) = means.0 h in (d, at_d, is ∙ ap (λ v. Some v) same)),
        (λ (h : FieldNamesAt t at c f q). means.1 (value.Cell (Some h.0), h.2, (h.0, h.1, refl))),
      )
    where
      by-value : (kind : FieldKind) → field_class kind ≡ Reference → (r : StoreMap) (places : Standing) (u : Sym) (w : Value) → Sits r places →
          StandsFor a places u w → FieldFits r kind w → IsSymBelow count u → WSat (is_in next z u) b ↔ NamesAt places w q
      by-value field.Bool reference r places u w sits stands fits under = (let no : ⊥ = cc in absurd no)
      by-value (field.Data target) reference r places u (value.Bool k) sits stands fits under = absurd fits
      by-value (field.Data target) reference r places u (value.Cells k) sits stands fits under = absurd fits
      by-value (field.Data target) reference r places u (value.Cell o) sits stands fits under =
          names-means count a b next z q places r u o sits agrees also stands under
      by-value (field.Pointer target route) reference r places u (value.Bool k) sits stands fits under = absurd fits
      by-value (field.Pointer target route) reference r places u (value.Cells k) sits stands fits under = absurd fits
      by-value (field.Pointer target route) reference r places u (value.Cell o) sits stands fits under =
          names-means count a b next z q places r u o sits agrees also stands under

  pub old-named : (f : FieldId) (entry : FieldEntry) (target : TypeId) → field_at l.types f ≡ Some entry → entry.kind ≡ field.Data target → NamesPlaced f
      first shows.seen.start
  old-named f entry target there kind d e named =
      let of_e = subst (λ k. FieldHoldsLive first k (value.Cell (Some e))) kind
      (IfSome-at (field_value first d f) (FieldHoldsLive first entry.kind) (value.Cell (Some e)) named
      (IfSome-at (field_at l.types f) (λ g. IfSome (field_value first d f) (FieldHoldsLive first g.kind)) entry there (shows.backbone.data_fields d f))) in
      begin-sits.there e (IsSome-and (cell_of first e) (λ g. g.variant.ty ≡ target) of_e)

  -- the data field of a live cell names the cell, live or dead, that stands there
  pub seen-data_names : (f : FieldId) (entry : FieldEntry) (target : TypeId) (b : Assignment) (next y z : ℕ) (p q : Position) (c : CellId) →
      field_at l.types f ≡ Some entry → entry.kind ≡ field.Data target → Agrees count a b → count ≤ next → y < next → z < next → IsOnly (b y) p →
      IsOnly (b z) q → IsAt at c p → IsLive t c → WSat (data_names l.types sight next f target y z) b ↔ FieldNamesAt t at c f q
  seen-data_names f entry target b next y z p q c there kind agrees few before behind only also here live =
      seen-names f entry b next y z p q c (ap field_class kind) there agrees few only also here live (first_child l.types sight next f target y z)
      (λ d e named. old-named f entry target there kind d e named)
      (first-child l.types l.vars first a shows.seen.start shows.fits shows.backbone shows.seen.stand count b agrees next y z p q few before behind only also
      sight f entry target there kind (first-has f entry there) (first-lives_in target))

  -- the cells that a field of live cells names stand somewhere, where they do so before all events
  pub seen-placed : (f : FieldId) (entry : FieldEntry) → field_at l.types f ≡ Some entry → NamesPlaced f first shows.seen.start → NamesPlaced f t at
  seen-placed f entry there old c d named =
      let live = IsLive-field_value t c f (value.Cell (Some d)) named in
      NamesPlaced-led l.types (var_slots l.vars) a f entry begin there begin-sits old (reverse view.events) finish shows.seen.lead c d
      (ends-value c f live ∙ named)
