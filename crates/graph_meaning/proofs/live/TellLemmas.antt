-- The formula of a field after all events, for whatever is said of its value.
use Rattle.std.proofs.Common.{◌≡◌, ◌≢◌, ◌↔◌, ◌⊎◌, inl, inr, ℕ, ◌+◌, ◌<◌, ◌≤◌, Bool, true, false, cond, ◌==◌, List, [], ◌∷◌, Option, Some, None, refl, sym, ap}
use Rattle.std.proofs.Common.{◌∙◌, subst, arith}
use Rattle.std.proofs.lemmas.Bool.{false≢true, eqb-true, eq-eqb, and_parts, and_from}
use Rattle.std.specs.Option.{option_and_then}
use Rattle.gta_theory.specs.Assignments.{Position, Assignment, IsOnly}
use Rattle.gta_theory.proofs.ListsLemmas.{Contains-later}
use Rattle.ws2s_core.specs.declared.track.Track.{Track}
use Rattle.ws2s_core.specs.declared.formula.Formula.{Formula}
use Rattle.ws2s_core.specs.declared.formula.Formula.TheVariants.{And, Not}
use Rattle.ws2s_core.specs.Satisfaction.{WSat}
use Rattle.ws2s_forms.specs.Forms.{or, and_list}
use Rattle.ws2s_forms.specs.Places.{slot_of}
use Rattle.store_core.specs.declared.ids.CellId.{CellId}
use Rattle.store_core.specs.declared.ids.FieldId.{FieldId}
use Rattle.store_core.specs.declared.ids.VariantId.{VariantId}
use Rattle.store_core.specs.declared.kind.FieldKind.{FieldKind}
use Rattle.store_core.specs.declared.kind.FieldKind.TheVariants as field
use Rattle.store_core.specs.declared.value.Value.{Value}
use Rattle.store_core.specs.declared.value.Value.TheVariants as value
use Rattle.store_core.specs.Tables.{TypeEntry, FieldEntry, field_at, is_had}
use Rattle.store_core.specs.Stores.{StoreMap, IsLive, FieldFits, field_value, field_class, blank, blank_slot, put_cell, set_field, remove_cell}
use Rattle.store_core.proofs.FittingLemmas.{IsSomeAnd-at}
use Rattle.store_laws.specs.Changed.{IsFieldSet, blank_field}
use Rattle.store_laws.proofs.CellLemmas.{cell_cases}
use Rattle.store_laws.proofs.ChangeLemmas.{IsPut-put_cell, IsFieldSet-set_field, IsRemoved-remove_cell}
use Rattle.tree_encode.proofs.TracksLemmas.{cond-some, and_then-some}
use Rattle.graph_view.specs.declared.view.Sym.{Sym}
use Rattle.graph_view.specs.declared.view.Sym.TheVariants.{Null, At}
use Rattle.graph_view.specs.declared.view.Event.{Event}
use Rattle.graph_view.specs.declared.view.Event.TheVariants.{New, Write, Free}
use Rattle.graph_view.specs.Syms.{is_in, guard}
use Rattle.graph_view.specs.Fields.{is_field, written, after}
use Rattle.graph_view.specs.After.{Standing, IsAt, StandsForCell, StandsFor, IsTaken, guard_of, Stood, new_cell, Leads, Happens, LeadTo}
use Rattle.graph_view.specs.After.{IsSymBelow, IsGuardBelow, IsEventBelow, AreEventsBelow}
use Rattle.graph_meaning.specs.Live.Meaning.{Agrees}
use Rattle.graph_meaning.specs.Live.Standing.{Sits}
use Rattle.graph_meaning.proofs.live.AgreeingLemmas.{sat-and, sat-or, sat-not, sat-three}
use Rattle.graph_meaning.proofs.live.SymsLemmas.{guard-means, is_in-cell}
use Rattle.graph_meaning.proofs.live.StandingLemmas.{taken-decided, new-or-old, old-not_new, Sits-led}

-- ---- fields

pub same-field : (f g : FieldId) → is_field f g ≡ true → f ≡ g
same-field f g e =
    let both = and_parts (f.ty.0 == g.ty.0) (f.index == g.index) e in
    let types = eqb-true f.ty.0 g.ty.0 both.0 in
    let indices = eqb-true f.index g.index both.1 in
    (λ i. record { ty = record { 0 = types i }; index = indices i })

field-same : (f g : FieldId) → f ≡ g → is_field f g ≡ true
field-same f g e =
    and_from (f.ty.0 == g.ty.0) (f.index == g.index) (eq-eqb f.ty.0 g.ty.0 (ap (λ (u : FieldId). u.ty.0) e))
    (eq-eqb f.index g.index (ap (λ (u : FieldId). u.index) e))

-- the field of a new cell is null or false
pub blank-value : (types : List TypeEntry) (v : VariantId) (f : FieldId) (entry : FieldEntry) (x : Value) → field_at types f ≡ Some entry →
    blank_field types v f ≡ Some x → x ≡ blank (field_class entry.kind)
blank-value types v f entry x there e = by (v.ty.0 == f.ty.0) e
  where
    by : (t : Bool) → cond t (option_and_then (blank_slot v.index) (field_at types f)) None ≡ Some x → x ≡ blank (field_class entry.kind)
    by false is = absurd (cc)
    by true is =
        let (own, found, slot) = and_then-some (blank_slot v.index) (field_at types f) x is in
        let both : Some own ≡ Some entry = sym found ∙ there in
        let same : own ≡ entry = cc in
        let value = cond-some (is_had v.index own) (blank (field_class own.kind)) x slot in
        sym value.1 ∙ ap (λ (g : FieldEntry). blank (field_class g.kind)) same

-- ---- what is said of a field's value at a position

-- what is said of a value where cells stand: nothing of blank ones, and new cells change nothing where they aren't named
pub record IsSaid (kind : FieldKind) (Says : Standing → Value → Type 0) : Type 0 where
  pub of_blank : (at : Standing) → Says at (blank (field_class kind)) → ⊥
  pub grows : (at : Standing) (c : CellId) (place : Position) (x : Value) → (x ≡ value.Cell (Some c) → ⊥) → Says at x ↔ Says ((c, place) ∷ at) x

-- what a formula says of the field's value at the position: of a cell that stands there, of a live one without the field, and
-- where none stands
pub record IsTold (f : FieldId) (p : Position) (Says : Standing → Value → Type 0) (Holds : Type 0) (x : Stood) : Type 0 where
  pub here : (c : CellId) (y : Value) → IsAt x.at c p → field_value x.store c f ≡ Some y → Holds ↔ Says x.at y
  pub lacks : (c : CellId) → IsAt x.at c p → IsLive x.store c → field_value x.store c f ≡ None → Holds → ⊥
  pub none : ((c : CellId) → IsAt x.at c p → ⊥) → Holds → ⊥

-- the values of the field name cells that stand somewhere
abbrev pub NamesPlaced : FieldId → StoreMap → Standing → Type 0
NamesPlaced f s at = (c d : CellId) → field_value s c f ≡ Some (value.Cell (Some d)) → (q : Position) × IsAt at d q

-- so of a live cell it says that the field has a value of which this is so
pub told-value : (f : FieldId) (p : Position) (Says : Standing → Value → Type 0) (Holds : Type 0) (x : Stood) (c : CellId) → IsTold f p Says Holds x →
    IsAt x.at c p → IsLive x.store c → Holds ↔ ((y : Value) × (field_value x.store c f ≡ Some y) × Says x.at y)
told-value f p Says Holds x c told here live = by (field_value x.store c f) refl
  where
    by : (o : Option Value) → field_value x.store c f ≡ o → Holds ↔ ((y : Value) × (field_value x.store c f ≡ Some y) × Says x.at y)
    by None lacking = (
      (λ holds. absurd (told.lacks c here live lacking holds)),
      (λ h. let none : None ≡ Some h.0 = sym lacking ∙ h.1 in absurd (cc)),
    )
    by (Some y) is =
        let means = told.here c y here is in (
          (λ holds. (y, is, means.0 holds)),
          (λ h.
              let both : Some h.0 ≡ Some y = sym h.1 ∙ is in
              let same : h.0 ≡ y = cc in
              means.1 (subst (λ z. Says x.at z) same h.2)),
        )

-- ---- one change

module _ (types : List TypeEntry) (f : FieldId) (entry : FieldEntry) (there : field_at types f ≡ Some entry) (p : Position)
    (Says : Standing → Value → Type 0) (said : IsSaid entry.kind Says) where
  told-along : (Holds : Type 0) (x y : Stood) → x ≡ y → IsTold f p Says Holds x → IsTold f p Says Holds y
  told-along Holds x y same told = subst (λ z. IsTold f p Says Holds z) same told

  stood-is : (y : Stood) (s : StoreMap) (at : Standing) → y.store ≡ s → y.at ≡ at → record { store = s; at = at } ≡ y
  stood-is y s at store places = λ i. record { store = sym store i; at = sym places i }

  -- a new cell
  told-put : (s : StoreMap) (at : Standing) (v : VariantId) (place : Position) (Holds : Type 0) → Sits s at → NamesPlaced f s at →
      ((c : CellId) → IsAt at c place → ⊥) → IsTold f p Says Holds (record { store = s; at = at }) →
      IsTold f p Says Holds (record { store = put_cell s types v; at = (new_cell s, place) ∷ at })
  told-put s at v place Holds sits old empty told = record {
    here = λ c y here value_is. elim (new-or-old s at place c p here) as (λ _. Holds ↔ Says ((new_cell s, place) ∷ at) y) [
      | inl new ↦ (
          let put = IsPut-put_cell types s v sits.above in
          let blank_is : y ≡ blank (field_class entry.kind) =
          blank-value types v f entry y there (sym (put.fields f) ∙ ap (λ d. field_value (put_cell s types v) d f) (sym new.0) ∙ value_is) in (
            (λ holds. absurd (told.none (λ d at_p. empty d (subst (λ q. IsAt at d q) new.1 at_p)) holds)),
            (λ says. absurd (said.of_blank ((new_cell s, place) ∷ at) (subst (λ z. Says ((new_cell s, place) ∷ at) z) blank_is says))),
          ))
      | inr stood ↦ (
          let put = IsPut-put_cell types s v sits.above in
          let before : field_value s c f ≡ Some y = sym (put.other_fields c f (old-not_new s at c p sits stood)) ∙ value_is in
          let same = told.here c y stood before in
          let grown = said.grows at (new_cell s) place y (λ e.
          let (q, at_q) = old c (new_cell s) (before ∙ ap (λ z. Some z) e) in
          let less : s.next < s.next = sits.below (new_cell s) q at_q in
          let no : ⊥ = omega (arith, less) in no) in (
            (λ holds. grown.0 (same.0 holds)),
            (λ says. same.1 (grown.1 says)),
          ))
    ];
    lacks = λ c here live lacking holds. elim (new-or-old s at place c p here) as (λ _. ⊥) [
      | inl new ↦ told.none (λ d at_p. empty d (subst (λ q. IsAt at d q) new.1 at_p)) holds
      | inr stood ↦ (
          let put = IsPut-put_cell types s v sits.above in
          let other = old-not_new s at c p sits stood in
          let before : IsLive s c = elim ((put.live c).0 live) as (λ _. IsLive s c) [ inl h ↦ h | inr same ↦ absurd (other same) ] in
          told.lacks c stood before (sym (put.other_fields c f other) ∙ lacking) holds)
    ];
    none = λ no holds. told.none (λ c here. no c (Contains-later (new_cell s, place) (c, p) at here)) holds;
  }

  -- a freed cell
  told-gone : (s : StoreMap) (at : Standing) (c : CellId) (Holds : Type 0) → IsTold f p Says Holds (record { store = s; at = at }) →
      IsTold f p Says Holds (record { store = remove_cell s c; at = at })
  told-gone s at c Holds told = record {
    here = λ d y here value_is. elim (cell_cases d c) as (λ _. Holds ↔ Says at y) [
      | inl same ↦ (
          let gone = IsRemoved-remove_cell s c in
          let none : None ≡ Some y = sym (gone.fields f) ∙ ap (λ e. field_value (remove_cell s c) e f) (sym same) ∙ value_is in absurd (cc))
      | inr other ↦ told.here d y here (sym ((IsRemoved-remove_cell s c).other_fields d f other) ∙ value_is)
    ];
    lacks = λ d here live lacking holds.
        let gone = IsRemoved-remove_cell s c in
        let was = (gone.live d).0 live in
        told.lacks d here was.0 (sym (gone.other_fields d f was.1) ∙ lacking) holds;
    none = told.none;
  }

  -- another field is written
  told-beside : (s : StoreMap) (at : Standing) (c : CellId) (g : FieldId) (w : Value) (Holds : Type 0) → f ≢ g →
      IsFieldSet c g w s (set_field s c g w) → IsTold f p Says Holds (record { store = s; at = at }) →
      IsTold f p Says Holds (record { store = set_field s c g w; at = at })
  told-beside s at c g w Holds apart set told = record {
    here = λ d y here value_is. elim (cell_cases d c) as (λ _. Holds ↔ Says at y) [
      | inl same ↦ told.here d y here (ap (λ e. field_value s e f) same ∙ sym (set.other_fields f apart)
          ∙ ap (λ e. field_value (set_field s c g w) e f) (sym same) ∙ value_is)
      | inr other ↦ told.here d y here (sym (set.fields_of_others d f other) ∙ value_is)
    ];
    lacks = λ d here live lacking holds. elim (cell_cases d c) as (λ _. ⊥) [
      | inl same ↦ told.lacks d here ((set.live d).0 live) (ap (λ e. field_value s e f) same ∙ sym (set.other_fields f apart)
          ∙ ap (λ e. field_value (set_field s c g w) e f) (sym same) ∙ lacking) holds
      | inr other ↦ told.lacks d here ((set.live d).0 live) (sym (set.fields_of_others d f other) ∙ lacking) holds
    ];
    none = told.none;
  }

  -- the field is written
  told-set : (s : StoreMap) (at : Standing) (c : CellId) (w : Value) (Holds Wrote Now : Type 0) → Sits s at →
      IsFieldSet c f w s (set_field s c f w) → Wrote ↔ Says at w →
      Now ↔ ((IsAt at c p × Wrote) ⊎ ((IsAt at c p → ⊥) × Holds)) → IsTold f p Says Holds (record { store = s; at = at }) →
      IsTold f p Says Now (record { store = set_field s c f w; at = at })
  told-set s at c w Holds Wrote Now sits set new now told = record {
    here = λ d y here value_is. elim (cell_cases d c) as (λ _. Now ↔ Says at y) [
      | inl same ↦ (
          let both : Some y ≡ Some w = sym value_is ∙ ap (λ e. field_value (set_field s c f w) e f) same ∙ set.value in
          let is : y ≡ w = cc in
          let at_c : IsAt at c p = subst (λ e. IsAt at e p) same here in (
            (λ holds. elim (now.0 holds) as (λ _. Says at y) [
              | inl wrote ↦ subst (λ z. Says at z) (sym is) (new.0 wrote.1)
              | inr kept ↦ absurd (kept.0 at_c)
            ]),
            (λ says. now.1 (inl (at_c, new.1 (subst (λ z. Says at z) is says)))),
          ))
      | inr other ↦ (
          let before : field_value s d f ≡ Some y = sym (set.fields_of_others d f other) ∙ value_is in
          let same = told.here d y here before in (
            (λ holds. elim (now.0 holds) as (λ _. Says at y) [
              | inl wrote ↦ absurd (other (sits.apart d c p here wrote.0))
              | inr kept ↦ same.0 kept.1
            ]),
            (λ says. now.1 (inr ((λ at_c. other (sits.apart d c p here at_c)), same.1 says))),
          ))
    ];
    lacks = λ d here live lacking holds. elim (cell_cases d c) as (λ _. ⊥) [
      | inl same ↦ (
          let none : None ≡ Some w = sym lacking ∙ ap (λ e. field_value (set_field s c f w) e f) same ∙ set.value in
          let no : ⊥ = cc in no)
      | inr other ↦ elim (now.0 holds) as (λ _. ⊥) [
        | inl wrote ↦ other (sits.apart d c p here wrote.0)
        | inr kept ↦ told.lacks d here ((set.live d).0 live) (sym (set.fields_of_others d f other) ∙ lacking) kept.1
      ]
    ];
    none = λ no holds. elim (now.0 holds) as (λ _. ⊥) [
      | inl wrote ↦ no c wrote.0
      | inr kept ↦ told.none no kept.1
    ];
  }

-- ---- cells that fields name stand somewhere

named-put : (types : List TypeEntry) (s : StoreMap) (at : Standing) (v : VariantId) (place : Position) (f : FieldId) (entry : FieldEntry) →
    field_at types f ≡ Some entry → Sits s at → NamesPlaced f s at → NamesPlaced f (put_cell s types v) ((new_cell s, place) ∷ at)
named-put types s at v place f entry there sits old c d e = elim (cell_cases c (new_cell s)) as (λ _. (q : Position) × IsAt ((new_cell s, place) ∷ at) d q) [
  | inl same ↦ (
      let put = IsPut-put_cell types s v sits.above in
      let blank_is = blank-value types v f entry (value.Cell (Some d)) there
      (sym (put.fields f) ∙ ap (λ x. field_value (put_cell s types v) x f) (sym same) ∙ e) in
      absurd (not-blank entry.kind d blank_is))
  | inr other ↦ (
      let put = IsPut-put_cell types s v sits.above in
      let (q, at_q) = old c d (sym (put.other_fields c f other) ∙ e) in (q, Contains-later (new_cell s, place) (d, q) at at_q))
]
  where
    not-blank : (kind : FieldKind) (d : CellId) → value.Cell (Some d) ≡ blank (field_class kind) → ⊥
    not-blank field.Bool d e = cc
    not-blank (field.Data target) d e = cc
    not-blank (field.Pointer target along) d e = cc

pub stands-somewhere : (a : Assignment) (at : Standing) (u : Sym) (d : CellId) → StandsForCell a at u (Some d) → (q : Position) × IsAt at d q
stands-somewhere a at Null d names = absurd names
stands-somewhere a at (At x) d names = (names.0, names.2)

named-set : (a : Assignment) (s : StoreMap) (at : Standing) (c : CellId) (g f : FieldId) (w : Value) (u : Sym) →
    IsFieldSet c g w s (set_field s c g w) → StandsFor a at u w → NamesPlaced f s at → NamesPlaced f (set_field s c g w) at
named-set a s at c g f w u set stands old d e is = elim (cell_cases d c) as (λ _. (q : Position) × IsAt at e q) [
  | inl same ↦ by (is_field f g) refl (ap (λ x. field_value (set_field s c g w) x f) (sym same) ∙ is)
  | inr other ↦ old d e (sym (set.fields_of_others d f other) ∙ is)
]
  where
    by : (t : Bool) → is_field f g ≡ t → field_value (set_field s c g w) c f ≡ Some (value.Cell (Some e)) → (q : Position) × IsAt at e q
    by true equal is_c =
        let both : Some w ≡ Some (value.Cell (Some e)) = sym set.value ∙ ap (λ h. field_value (set_field s c g w) c h) (sym (same-field f g equal)) ∙ is_c in
        let value_is : w ≡ value.Cell (Some e) = cc in
        stands-somewhere a at u e (subst (λ z. StandsFor a at u z) value_is stands)
    by false apart is_c =
        old c e (sym (set.other_fields f (λ h. false≢true (sym apart ∙ field-same f g h))) ∙ is_c)

named-gone : (s : StoreMap) (at : Standing) (c : CellId) (f : FieldId) → NamesPlaced f s at → NamesPlaced f (remove_cell s c) at
named-gone s at c f old d e is = elim (cell_cases d c) as (λ _. (q : Position) × IsAt at e q) [
  | inl same ↦ (
      let gone = IsRemoved-remove_cell s c in
      let none : None ≡ Some (value.Cell (Some e)) = sym (gone.fields f) ∙ ap (λ x. field_value (remove_cell s c) x f) (sym same) ∙ is in absurd (cc))
  | inr other ↦ old d e (sym ((IsRemoved-remove_cell s c).other_fields d f other) ∙ is)
]

named-along : (f : FieldId) (z : Stood) (s : StoreMap) (at : Standing) → z.store ≡ s → z.at ≡ at → NamesPlaced f s at → NamesPlaced f z.store z.at
named-along f z s at store places named =
    subst (λ r. NamesPlaced f r z.at) (sym store) (subst (λ l. NamesPlaced f s l) (sym places) named)

NamesPlaced-happens : (types : List TypeEntry) (slots : ℕ) (a : Assignment) (f : FieldId) (entry : FieldEntry) (e : Event) (x z : Stood) →
    field_at types f ≡ Some entry → Sits x.store x.at → Happens types slots a e x z → NamesPlaced f x.store x.at → NamesPlaced f z.store z.at
NamesPlaced-happens types slots a f entry e x z there sits happens old = elim (taken-decided a (guard_of e)) as (λ _. NamesPlaced f z.store z.at) [
  | inl taken ↦ by e (happens.taken taken)
  | inr passed ↦ subst (λ (st : Stood). NamesPlaced f st.store st.at) (sym (happens.passed passed)) old
]
  where
    by : (e : Event) → Leads types slots a e x z → NamesPlaced f z.store z.at
    by (New g k v) made =
        named-along f z (put_cell x.store types v) ((new_cell x.store, slot_of (slots + k)) ∷ x.at) made.store made.at
        (named-put types x.store x.at v (slot_of (slots + k)) f entry there sits old)
    by (Write g u h w) wrote =
        named-along f z (set_field x.store wrote.cell h wrote.value) x.at wrote.store wrote.at
        (named-set a x.store x.at wrote.cell h f wrote.value w (IsFieldSet-set_field x.store wrote.cell h wrote.value wrote.has) wrote.stands old)
    by (Free g u) freed =
        named-along f z (remove_cell x.store freed.cell) x.at freed.store freed.at (named-gone x.store x.at freed.cell f old)

pub NamesPlaced-led : (types : List TypeEntry) (slots : ℕ) (a : Assignment) (f : FieldId) (entry : FieldEntry) (first : Stood) → field_at types f ≡ Some entry →
    Sits first.store first.at → NamesPlaced f first.store first.at → (events : List Event) (x : Stood) → LeadTo types slots a first events x →
    NamesPlaced f x.store x.at
NamesPlaced-led types slots a f entry first there sits old [] x led = subst (λ (st : Stood). NamesPlaced f st.store st.at) (sym led) old
NamesPlaced-led types slots a f entry first there sits old (e ∷ earlier) x (before, led, happens) =
    NamesPlaced-happens types slots a f entry e before x there (Sits-led types slots a first earlier before led sits) happens
    (NamesPlaced-led types slots a f entry first there sits old earlier before led)

-- ---- the formula

told-iff : (f : FieldId) (p : Position) (Says : Standing → Value → Type 0) (Holds Now : Type 0) (x : Stood) → Now ↔ Holds → IsTold f p Says Holds x →
    IsTold f p Says Now x
told-iff f p Says Holds Now x same told = record {
  here = λ c y here value_is.
      let means = told.here c y here value_is in
      ((λ h. means.0 (same.0 h)), (λ h. same.1 (means.1 h)));
  lacks = λ c here live lacking h. told.lacks c here live lacking (same.0 h);
  none = λ no h. told.none no (same.0 h);
}

module _ (types : List TypeEntry) (slots count : ℕ) (a b : Assignment) (next y : ℕ) (p : Position) (agrees : Agrees count a b)
    (few : count ≤ next) (only : IsOnly (b y) p) (f : FieldId) (entry : FieldEntry) (there : field_at types f ≡ Some entry)
    (Says : Standing → Value → Type 0) (said : IsSaid entry.kind Says) (new : Sym → Formula)
    (means : (s : StoreMap) (at : Standing) (u : Sym) (w : Value) → Sits s at → StandsFor a at u w → FieldFits s entry.kind w → IsSymBelow count u →
    WSat (new u) b ↔ Says at w) where
  abbrev Told : Formula → Stood → Type 0
  Told g x = IsTold f p Says (WSat g b) x

  along : (g : Formula) (z : Stood) (s : StoreMap) (at : Standing) → z.store ≡ s → z.at ≡ at → Told g (record { store = s; at = at }) → Told g z
  along g z s at store places told =
      told-along types f entry there p Says said (WSat g b) (record { store = s; at = at }) z
      (stood-is types f entry there p Says said z s at store places) told

  kept : (g : Formula) (x z : Stood) → z ≡ x → Told g x → Told g z
  kept g x z same told = told-along types f entry there p Says said (WSat g b) x z (sym same) told

  abbrev rewritten : Option Track → Sym → Sym → Formula → Formula
  rewritten g u w earlier =
      or (and_list next (guard next g ∷ is_in next y u ∷ new w ∷ [])) (And (Not (And (guard next g) (is_in next y u))) earlier)

  rewritten-means : (g : Option Track) (u w : Sym) (earlier : Formula) → IsGuardBelow count g → WSat (rewritten g u w earlier) b
      ↔ ((IsTaken a g × WSat (is_in next y u) b × WSat (new w) b) ⊎ (((IsTaken a g × WSat (is_in next y u) b) → ⊥) × WSat earlier b))
  rewritten-means g u w earlier below =
      let guarded = guard-means count a b next g agrees few below in
      sat-or (and_list next (guard next g ∷ is_in next y u ∷ new w ∷ [])) (And (Not (And (guard next g) (is_in next y u))) earlier) b
      (IsTaken a g × WSat (is_in next y u) b × WSat (new w) b) (((IsTaken a g × WSat (is_in next y u) b) → ⊥) × WSat earlier b) agrees.finite
      (sat-three next (guard next g) (is_in next y u) (new w) b (IsTaken a g) (WSat (is_in next y u) b) (WSat (new w) b) guarded
      ((λ h. h), (λ h. h)) ((λ h. h), (λ h. h)))
      (sat-and (Not (And (guard next g) (is_in next y u))) earlier b ((IsTaken a g × WSat (is_in next y u) b) → ⊥) (WSat earlier b)
      (sat-not (And (guard next g) (is_in next y u)) b (IsTaken a g × WSat (is_in next y u) b)
      (sat-and (guard next g) (is_in next y u) b (IsTaken a g) (WSat (is_in next y u) b) guarded ((λ h. h), (λ h. h))))
      ((λ h. h), (λ h. h)))

  write-told : (g : Option Track) (u w : Sym) (earlier : Formula) (x z : Stood) → Sits x.store x.at → IsEventBelow count (Write g u f w) →
      Happens types slots a (Write g u f w) x z → Told earlier x → Told (rewritten g u w earlier) z
  write-told g u w earlier x z sits below happens told = elim (taken-decided a g) as (λ _. Told (rewritten g u w earlier) z) [
    | inl taken ↦ (
        let wrote = happens.taken taken in
        let c = wrote.cell in
        let means_or = rewritten-means g u w earlier below.0 in
        let named = is_in-cell count a b next y p x.at u c agrees below.1 only (sits.one c) wrote.names in
        let (own, found, fits) = IsSomeAnd-at (field_at types f) (λ e. FieldFits x.store e.kind wrote.value) wrote.fits in
        let both : Some own ≡ Some entry = sym found ∙ there in
        let same : own ≡ entry = cc in
        let fit : FieldFits x.store entry.kind wrote.value = subst (λ (e : FieldEntry). FieldFits x.store e.kind wrote.value) same fits in
        let now : WSat (rewritten g u w earlier) b ↔ ((IsAt x.at c p × WSat (new w) b) ⊎ ((IsAt x.at c p → ⊥) × WSat earlier b)) = (
          (λ h. elim (means_or.0 h) as (λ _. (IsAt x.at c p × WSat (new w) b) ⊎ ((IsAt x.at c p → ⊥) × WSat earlier b)) [
            | inl new_one ↦ inl (named.0 new_one.1, new_one.2)
            | inr old_one ↦ inr ((λ here. old_one.0 (taken, named.1 here)), old_one.1)
          ]),
          (λ h. means_or.1 (elim h as (λ _. (IsTaken a g × WSat (is_in next y u) b × WSat (new w) b)
              ⊎ (((IsTaken a g × WSat (is_in next y u) b) → ⊥) × WSat earlier b)) [
                | inl new_one ↦ inl (taken, named.1 new_one.0, new_one.1)
                | inr old_one ↦ inr ((λ k. old_one.0 (named.0 k.1)), old_one.1)
              ])),
        ) in
        along (rewritten g u w earlier) z (set_field x.store c f wrote.value) x.at wrote.store wrote.at
        (told-set types f entry there p Says said x.store x.at c wrote.value (WSat earlier b) (WSat (new w) b) (WSat (rewritten g u w earlier) b) sits
        (IsFieldSet-set_field x.store c f wrote.value wrote.has)
        (means x.store x.at w wrote.value sits wrote.stands fit below.2) now told))
    | inr passed ↦ (
        let means_or = rewritten-means g u w earlier below.0 in
        kept (rewritten g u w earlier) x z (happens.passed passed) (told-iff f p Says (WSat earlier b) (WSat (rewritten g u w earlier) b) x (
          (λ h. elim (means_or.0 h) as (λ _. WSat earlier b) [ inl new_one ↦ absurd (passed new_one.0) | inr old_one ↦ old_one.1 ]),
          (λ h. means_or.1 (inr ((λ k. passed k.0), h))),
        ) told))
  ]

  event-told : (e : Event) (earlier : Formula) (x z : Stood) → Sits x.store x.at → NamesPlaced f x.store x.at → IsEventBelow count e →
      Happens types slots a e x z → Told earlier x → Told (written next f y new e earlier) z
  event-told (New g k v) earlier x z sits old below happens told = elim (taken-decided a g) as (λ _. Told earlier z) [
    | inl taken ↦ (
        let made = happens.taken taken in
        along earlier z (put_cell x.store types v) ((new_cell x.store, slot_of (slots + k)) ∷ x.at) made.store made.at
        (told-put types f entry there p Says said x.store x.at v (slot_of (slots + k)) (WSat earlier b) sits old made.empty told))
    | inr passed ↦ kept earlier x z (happens.passed passed) told
  ]
  event-told (Free g u) earlier x z sits old below happens told = elim (taken-decided a g) as (λ _. Told earlier z) [
    | inl taken ↦ (
        let freed = happens.taken taken in
        along earlier z (remove_cell x.store freed.cell) x.at freed.store freed.at
        (told-gone types f entry there p Says said x.store x.at freed.cell (WSat earlier b) told))
    | inr passed ↦ kept earlier x z (happens.passed passed) told
  ]
  event-told (Write g u h w) earlier x z sits old below happens told = by (is_field f h) refl
    where
      by : (t : Bool) → is_field f h ≡ t → Told (cond t (rewritten g u w earlier) earlier) z
      by true is =
          write-told g u w earlier x z sits below (subst (λ k. Happens types slots a (Write g u k w) x z) (sym (same-field f h is)) happens) told
      by false is = elim (taken-decided a g) as (λ _. Told earlier z) [
        | inl taken ↦ (
            let wrote = happens.taken taken in
            along earlier z (set_field x.store wrote.cell h wrote.value) x.at wrote.store wrote.at
            (told-beside types f entry there p Says said x.store x.at wrote.cell h wrote.value (WSat earlier b)
            (λ e. false≢true (sym is ∙ field-same f h e)) (IsFieldSet-set_field x.store wrote.cell h wrote.value wrote.has) told))
        | inr passed ↦ kept earlier x z (happens.passed passed) told
      ]

  module _ (begin : Formula) (first : Stood) (sits : Sits first.store first.at) (old : NamesPlaced f first.store first.at) (base : Told begin first) where
    pub after-told : (events : List Event) (x : Stood) → LeadTo types slots a first events x → AreEventsBelow count events →
        Told (after next f y new begin events) x
    after-told [] x led below = kept begin first x led base
    after-told (e ∷ earlier) x (before, led, happens) below =
        event-told e (after next f y new begin earlier) before x (Sits-led types slots a first earlier before led sits)
        (NamesPlaced-led types slots a f entry first there sits old earlier before led) below.0 happens (after-told earlier before led below.1)
