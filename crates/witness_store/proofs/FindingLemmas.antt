-- What pointer fields have to hold, found place by place.
use Rattle.std.proofs.Common.{◌≡◌, ◌↔◌, ◌⊎◌, ◌<◌, ◌≤◌, ◌+◌, ℕ, zero, suc, inl, inr, true, false, List, [], ◌∷◌, slice_get, length, Option, Some, None, IsSome}
use Rattle.std.proofs.Common.{IsSomeAnd, Contains}
use Rattle.std.proofs.Common.{refl, sym, ap, ◌∙◌, subst, arith}
use Rattle.std.specs.List.{AllByRecursion}
use Rattle.std.specs.Prelude.{option_map, is_some}
use Rattle.std.specs.Option.{option_and_then}
use Rattle.std.specs.FinMap.{keys}
use Rattle.std.proofs.lemmas.Option.{slice_get_within, same_Some}
use Rattle.store_core.specs.declared.ids.TypeId.{TypeId}
use Rattle.store_core.specs.declared.ids.FieldId.{FieldId}
use Rattle.store_core.specs.declared.ids.CellId.{CellId}
use Rattle.store_core.specs.declared.kind.FieldKind.{FieldKind}
use Rattle.store_core.specs.declared.kind.FieldKind.TheVariants as field
use Rattle.store_core.specs.declared.kind.Route.{Route}
use Rattle.store_core.specs.declared.value.Value.{Value}
use Rattle.store_core.specs.CellLists.{AreRising}
use Rattle.store_core.specs.Tables.{TypeEntry, FieldEntry, field_at, fields_of}
use Rattle.store_core.specs.Stores.{StoreMap, CellEntry, IsLive, cell_of, field_of, field_value}
use Rattle.routing_walks.specs.Walks.{DataAlone, IsOfType, Walk}
use Rattle.routing_walks.specs.Destinations.{EndsWalk, EndsKind, Dest, IsPointer}
use Rattle.routing_walks.specs.Gathering.{Before}
use Rattle.routing_walks.specs.Sets.{Lists}
use Rattle.routing_walks.proofs.GatheringLemmas.{below_suc, Contains-at, place_in}
use Rattle.routing_walks.proofs.KeyLemmas.{key_of_live}
use Rattle.routing_expr.proofs.IndexLemmas.{field-type, dead-mapped}
use Rattle.witness_store.specs.declared.finding.Pointing.{Pointing}
use Rattle.witness_store.specs.Only.{IsOnlyCell}
use Rattle.witness_store.specs.PointerFinding.{IsPointing}
use Rattle.witness_store.proofs.OnlyLemmas.{IsOnlyCell-alike, IsOnlyCell-once}

-- ---- the only cell of a list

all_at : (P : CellId → Type 0) (cells : List CellId) (j : ℕ) (d : CellId) → AllByRecursion P cells → slice_get cells j ≡ Some d → P d
all_at P [] j d all at = absurd (cc)
all_at P (c ∷ cells) zero d all at = let same : c ≡ d = cc in subst P same all.0
all_at P (c ∷ cells) (suc j) d all at = all_at P cells j d all.1 at

rising_at : (cells : List CellId) → AreRising cells → (i j : ℕ) (c d : CellId) → i < j → slice_get cells i ≡ Some c → slice_get cells j ≡ Some d → c.0 < d.0
rising_at [] rising i j c d below at_i at_j = absurd (cc)
rising_at (b ∷ cells) rising i zero c d below at_i at_j = absurd (omega arith)
rising_at (b ∷ cells) rising zero (suc j) c d below at_i at_j = let same : b ≡ c = cc in
    subst (λ (x : CellId). x.0 < d.0) same (all_at (λ x. b.0 < x.0) cells j d rising.0 at_j)
rising_at (b ∷ cells) rising (suc i) (suc j) c d below at_i at_j = rising_at cells rising.1 i j c d (omega arith) at_i at_j

-- the cell is among the first of the list, and is of the type
pub record AmongFirst (s : StoreMap) (target : TypeId) (cells : List CellId) (n : ℕ) (d : CellId) : Type 0 where
  pub place : ℕ
  pub before : place < n
  pub at : slice_get cells place ≡ Some d
  pub is : IsOfType s target d

-- none so far, or one
abbrev pub OneAtMost : (CellId → Type 0) → Option CellId → Type 0
OneAtMost P None = (d : CellId) → P d → ⊥
OneAtMost P (Some d) = P d × ((e : CellId) → P e → e ≡ d)

-- where no cell was kept there is none
pub nothing_yet : (P : CellId → Type 0) (o : Option CellId) → is_some o ≡ false → OneAtMost P o → OneAtMost P None
nothing_yet P None none h = h
nothing_yet P (Some d) none h = absurd (cc)

module _ (s : StoreMap) (target : TypeId) (cells : List CellId) where
  pub only_start : OneAtMost (AmongFirst s target cells 0) None
  only_start d h = let below = h.before in absurd (omega arith)

  more : (n : ℕ) (d : CellId) → AmongFirst s target cells n d → AmongFirst s target cells (n + 1) d
  more n d h = let below = h.before in record { place = h.place; before = omega arith; at = h.at; is = h.is }

  last : (n : ℕ) (d : CellId) → AmongFirst s target cells (n + 1) d → AmongFirst s target cells n d ⊎ ((slice_get cells n ≡ Some d) × IsOfType s target d)
  last n d h = elim (below_suc h.place n h.before) [
    | inl below ↦ inl (record { place = h.place; before = below; at = h.at; is = h.is })
    | inr same ↦ inr (subst (λ i. slice_get cells i ≡ Some d) same h.at, h.is)
  ]

  pub only_skip : (n : ℕ) (c : CellId) (o : Option CellId) → slice_get cells n ≡ Some c → (IsOfType s target c → ⊥) →
      OneAtMost (AmongFirst s target cells n) o → OneAtMost (AmongFirst s target cells (n + 1)) o
  only_skip n c o at not h = by o h
    where
      other : (d : CellId) → (slice_get cells n ≡ Some d) × IsOfType s target d → ⊥
      other d l = not (subst (IsOfType s target) (same_Some d c (sym l.0 ∙ at)) l.1)

      by : (o : Option CellId) → OneAtMost (AmongFirst s target cells n) o → OneAtMost (AmongFirst s target cells (n + 1)) o
      by None h = λ d among. elim (last n d among) [ inl old ↦ h d old | inr new ↦ other d new ]
      by (Some b) h = (more n b h.0, λ e among. elim (last n e among) [ inl old ↦ h.1 e old | inr new ↦ absurd (other e new) ])

  pub only_take : (n : ℕ) (c : CellId) → slice_get cells n ≡ Some c → IsOfType s target c →
      OneAtMost (AmongFirst s target cells n) None → OneAtMost (AmongFirst s target cells (n + 1)) (Some c)
  only_take n c at is h = (
    record { place = n; before = omega arith; at = at; is = is },
    λ e among. elim (last n e among) [ inl old ↦ absurd (h e old) | inr new ↦ same_Some e c (sym new.0 ∙ at) ],
  )

  pub only_two : AreRising cells → (n : ℕ) (c : CellId) (o : Option CellId) → is_some o ≡ true → slice_get cells n ≡ Some c → IsOfType s target c →
      OneAtMost (AmongFirst s target cells n) o → IsOnlyCell (λ d. Contains cells d × IsOfType s target d) None
  only_two rising n c None some at is h = absurd (cc)
  only_two rising n c (Some b) some at is h =
      let below : b.0 < c.0 = rising_at cells rising h.0.place n b c h.0.before h.0.at at in
      inr (record {
        one = b;
        other = c;
        apart = λ same. let numbers : b.0 ≡ c.0 = ap (λ (x : CellId). x.0) same in absurd (omega arith);
        one_is = (Contains-at cells h.0.place b h.0.at, h.0.is);
        other_is = (Contains-at cells n c at, is);
      })

  pub only_end : (n : ℕ) (o : Option CellId) → length cells ≤ n → OneAtMost (AmongFirst s target cells n) o →
      IsOnlyCell (λ d. Contains cells d × IsOfType s target d) o
  only_end n o enough h = by o h
    where
      to : (d : CellId) → AmongFirst s target cells n d → Contains cells d × IsOfType s target d
      to d among = (Contains-at cells among.place d among.at, among.is)

      from : (d : CellId) → Contains cells d × IsOfType s target d → AmongFirst s target cells n d
      from d l = let p = place_in cells d l.0 in let inside = slice_get_within cells p.0 d p.1 in
          record { place = p.0; before = omega arith; at = p.1; is = l.1 }

      by : (o : Option CellId) → OneAtMost (AmongFirst s target cells n) o → IsOnlyCell (λ d. Contains cells d × IsOfType s target d) o
      by None h = inl (λ d l. h d (from d l))
      by (Some b) h = (to b h.0, λ e l. h.1 e (from e l))

-- ---- the field of a cell

-- what a field has to hold is looked for among the ends of its walks
pub only_destination : (types : List TypeEntry) (s : StoreMap) (c : CellId) (f : FieldId) (target : TypeId) (along : Route) (cells : List CellId)
    (o : Option CellId) →
    IsSomeAnd (field_at types f) (λ entry. entry.kind ≡ field.Pointer target along) → Lists (Walk types s DataAlone along c) cells →
    IsOnlyCell (λ d. Contains cells d × IsOfType s target d) o → IsOnlyCell (Dest types s c f) o
only_destination types s c f target along cells o kind listed only = IsOnlyCell-alike _ (Dest types s c f) alike o only
  where
    to : (d : CellId) (e : Option FieldEntry) → IsSomeAnd e (λ entry. entry.kind ≡ field.Pointer target along) → EndsWalk types s along target c d →
        IsSomeAnd e (λ entry. EndsKind types s entry.kind c d)
    to d None k h = k
    to d (Some entry) k h = subst (λ x. EndsKind types s x c d) (sym k) h

    from : (d : CellId) (e : Option FieldEntry) → IsSomeAnd e (λ entry. entry.kind ≡ field.Pointer target along) →
        IsSomeAnd e (λ entry. EndsKind types s entry.kind c d) → EndsWalk types s along target c d
    from d None k h = absurd k
    from d (Some entry) k h = subst (λ x. EndsKind types s x c d) k h

    alike : (d : CellId) → (Contains cells d × IsOfType s target d) ↔ Dest types s c f d
    alike d = (
      λ h. to d (field_at types f) kind (record { walk = (listed.members d).0 h.0; of_target = h.1 }),
      λ h. let ends = from d (field_at types f) kind h in ((listed.members d).1 ends.walk, ends.of_target),
    )

-- the one that was found, and no other of this field
pub pointing_found : (types : List TypeEntry) (s : StoreMap) (c : CellId) (f : FieldId) (o : Option CellId) (x : Pointing) →
    IsPointing types s (record { cell = c; field = f; to = o }) →
    (Some (record { cell = c; field = f; to = o }) ≡ Some x) ↔ ((x.cell ≡ c) × (x.field ≡ f) × IsPointing types s x)
pointing_found types s c f o x is = (
  λ e. let same : record { cell = c; field = f; to = o } ≡ x = same_Some _ x e in (
    sym (ap (λ (y : Pointing). y.cell) same),
    sym (ap (λ (y : Pointing). y.field) same),
    subst (IsPointing types s) same is,
  ),
  λ h. ap Some (λ i. record {
    cell = sym h.0 i;
    field = sym h.1 i;
    to = IsOnlyCell-once (Dest types s c f) o x.to is.to
        (subst (λ g. IsOnlyCell (Dest types s c g) x.to) h.1 (subst (λ d. IsOnlyCell (Dest types s d x.field) x.to) h.0 h.2.to)) i;
  }),
)

-- a pointer field that the cell has, with what it has to hold
pub pointing_here : (types : List TypeEntry) (s : StoreMap) (c : CellId) (f : FieldId) (target : TypeId) (along : Route) (kind : FieldKind)
    (cells : List CellId)
    (o : Option CellId) → Some kind ≡ option_map (λ entry. entry.kind) (field_at types f) → kind ≡ field.Pointer target along →
    IsSome (field_value s c f) → Lists (Walk types s DataAlone along c) cells → IsOnlyCell (λ d. Contains cells d × IsOfType s target d) o →
    IsPointing types s (record { cell = c; field = f; to = o })
pointing_here types s c f target along kind cells o at is has listed only = record {
  kind = pointer (field_at types f) this;
  has = has;
  to = only_destination types s c f target along cells o this listed only;
}
  where
    by : (e : Option FieldEntry) → Some kind ≡ option_map (λ entry. entry.kind) e → IsSomeAnd e (λ entry. entry.kind ≡ field.Pointer target along)
    by None at = absurd (cc)
    by (Some entry) at = sym (same_Some kind entry.kind at) ∙ is

    this : IsSomeAnd (field_at types f) (λ entry. entry.kind ≡ field.Pointer target along)
    this = by (field_at types f) at

    pointer : (e : Option FieldEntry) → IsSomeAnd e (λ entry. entry.kind ≡ field.Pointer target along) → IsSomeAnd e (λ entry. IsPointer entry.kind)
    pointer None h = h
    pointer (Some entry) h = subst IsPointer (sym h) tt

-- where something is kept behind a reference, it is there
pub IsSome-map : {X Y : Type 0} (f : X → Y) (o : Option X) → is_some o ≡ true → IsSome (option_map f o)
IsSome-map f None some = absurd (cc)
IsSome-map f (Some x) some = refl

-- ---- fields and cells place by place

IsSomeAnd-within : {X : Type 0} (xs : List X) (i : ℕ) (P : X → Type 0) → IsSomeAnd (slice_get xs i) P → i < length xs
IsSomeAnd-within {X} xs i P h = by (slice_get xs i) refl h
  where
    by : (o : Option X) → slice_get xs i ≡ o → IsSomeAnd o P → i < length xs
    by None at h = absurd h
    by (Some x) at h = slice_get_within xs i x at

held : (o : Option Value) → IsSome o → (x : Value) × (o ≡ Some x)
held None h = absurd (cc)
held (Some x) h = (x, refl)

-- it is of the field with this index
pub record PointingAt (types : List TypeEntry) (s : StoreMap) (c : CellId) (ty : TypeId) (index : ℕ) (x : Pointing) : Type 0 where
  pub cell_is : x.cell ≡ c
  pub field_is : x.field ≡ record { ty = ty; index = index }
  pub is : IsPointing types s x

-- the found one or none, as the call said
module _ (types : List TypeEntry) (s : StoreMap) (c : CellId) (ty : TypeId) (index : ℕ) (o : Option Pointing)
    (found : (x : Pointing) → (o ≡ Some x) ↔ ((x.cell ≡ c) × (x.field ≡ record { ty = ty; index = index }) × IsPointing types s x)) where
  pub PointingAt-some : (y : Pointing) → o ≡ Some y → (x : Pointing) → (x ≡ y) ↔ PointingAt types s c ty index x
  PointingAt-some y is x = (
    λ same. let h = (found x).0 (is ∙ ap Some (sym same)) in record { cell_is = h.0; field_is = h.1; is = h.2 },
    λ h. sym (same_Some y x (sym is ∙ (found x).1 (h.cell_is, h.field_is, h.is))),
  )

  pub PointingAt-none : o ≡ None → (x : Pointing) → PointingAt types s c ty index x → ⊥
  PointingAt-none is x h = none_some (sym is ∙ (found x).1 (h.cell_is, h.field_is, h.is))
    where
      none_some : None ≡ Some x → ⊥
      none_some e = cc

pub PointingAt-all : (types : List TypeEntry) (s : StoreMap) (c : CellId) (ty : TypeId) (n : ℕ) →
    Some ty ≡ option_map (λ (cell : CellEntry). cell.variant.ty) (cell_of s c) → length (fields_of types ty) ≤ n →
    (x : Pointing) → Before (PointingAt types s c ty) n x ↔ ((x.cell ≡ c) × IsPointing types s x)
PointingAt-all types s c ty n typed enough x = (
  λ h. (h.at.cell_is, h.at.is),
  λ h.
      let value = held (field_value s x.cell x.field) h.1.has in
      let same : x.field.ty ≡ ty = field-type s c x.field ty value.0 typed (subst (λ d. field_value s d x.field ≡ Some value.0) h.0 value.1) in
      let inside : x.field.index < length (fields_of types ty) =
      subst (λ t. x.field.index < length (fields_of types t)) same (IsSomeAnd-within (fields_of types x.field.ty) x.field.index _ h.1.kind) in
      record {
        place = x.field.index;
        before = omega arith;
        at = record
            { cell_is = h.0; field_is = λ i. record { ty = same i; index = x.field.index }; is = h.1 };
      },
)

IsLive-field_value : (s : StoreMap) (c : CellId) (f : FieldId) → IsSome (field_value s c f) → IsLive s c
IsLive-field_value s c f h = by (cell_of s c) h
  where
    by : (o : Option CellEntry) → IsSome (option_and_then (λ (cell : CellEntry). field_of cell f) o) → IsSome o
    by None h = h
    by (Some cell) h = refl

pub PointingAt-dead : (types : List TypeEntry) (s : StoreMap) (c : CellId) → None ≡ option_map (λ (cell : CellEntry). cell.variant.ty) (cell_of s c) →
    (x : Pointing) → (x.cell ≡ c) × IsPointing types s x → ⊥
PointingAt-dead types s c dead x h =
    dead-mapped (cell_of s c) (λ cell. cell.variant.ty) dead (subst (IsLive s) h.0 (IsLive-field_value s x.cell x.field h.1.has))

-- it is of the live cell at the place
pub record PointingOf (types : List TypeEntry) (s : StoreMap) (place : ℕ) (x : Pointing) : Type 0 where
  pub at : slice_get (keys s.cells) place ≡ Some x.cell.0
  pub is : IsPointing types s x

pub PointingOf-cell : (types : List TypeEntry) (s : StoreMap) (place : ℕ) (c : CellId) →
    Some c ≡ option_map (λ number. record { 0 = number }) (slice_get (keys s.cells) place) →
    (x : Pointing) → ((x.cell ≡ c) × IsPointing types s x) ↔ PointingOf types s place x
PointingOf-cell types s place c is x = by (slice_get (keys s.cells) place) refl is
  where
    by : (o : Option ℕ) → slice_get (keys s.cells) place ≡ o → Some c ≡ option_map (λ number. record { 0 = number }) o →
        ((x.cell ≡ c) × IsPointing types s x) ↔ PointingOf types s place x
    by None at is = absurd (cc)
    by (Some number) at is =
        let same : c.0 ≡ number = ap (λ (d : CellId). d.0) (same_Some c (record { 0 = number }) is) in (
          λ h. record { at = at ∙ ap Some (sym same ∙ sym (ap (λ (d : CellId). d.0) h.0)); is = h.1 },
          λ h. let numbers : number ≡ x.cell.0 = same_Some number x.cell.0 (sym at ∙ h.at) in ((λ i. record { 0 = sym (same ∙ numbers) i }), h.is),
        )

pub PointingOf-all : (types : List TypeEntry) (s : StoreMap) (n : ℕ) → length (keys s.cells) ≤ n →
    (x : Pointing) → Before (PointingOf types s) n x ↔ IsPointing types s x
PointingOf-all types s n enough x = (
  λ h. h.at.is,
  λ h.
      let key = key_of_live s x.cell (IsLive-field_value s x.cell x.field h.has) in
      let inside = slice_get_within (keys s.cells) key.0 x.cell.0 key.1 in
      record { place = key.0; before = omega arith; at = record { at = key.1; is = h } },
)
