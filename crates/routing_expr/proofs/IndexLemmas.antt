-- The links of a store.
use Rattle.std.proofs.Common.{◌≡◌, ◌↔◌, ◌<◌, ◌≤◌, ℕ, Bool, true, false, cond, eqb, List, length, Option, Some, None, IsSome, IsSomeAnd, refl, sym, ap}
use Rattle.std.proofs.Common.{◌∙◌, subst, arith, slice_get, eqb-true}
use Rattle.std.specs.Option.{option_map, option_and_then}
use Rattle.std.specs.FinMap.{keys}
use Rattle.std.specs.List.Sorted.{IsPermutation}
use Rattle.std.proofs.lemmas.Option.{slice_get_within, same_Some}
use Rattle.std.proofs.lemmas.List.Sorted.{Contains-permutation, IsPermutation-sym}
use Rattle.store_core.specs.declared.ids.TypeId.{TypeId}
use Rattle.store_core.specs.declared.ids.FieldId.{FieldId}
use Rattle.store_core.specs.declared.ids.CellId.{CellId}
use Rattle.store_core.specs.declared.value.Value.{Value}
use Rattle.store_core.specs.Tables.{TypeEntry, fields_of}
use Rattle.store_core.specs.Stores.{StoreMap, CellEntry, IsLive, cell_of, field_of, field_value}
use Rattle.routing_walks.specs.Walks.{Fields, Leads}
use Rattle.routing_walks.specs.Gathering.{HasAll, Before}
use Rattle.routing_walks.proofs.LiveLemmas.{Leads-live}
use Rattle.routing_walks.proofs.KeyLemmas.{key_of_live}
use Rattle.routing_expr.specs.declared.links.Link.{Link}
use Rattle.routing_expr.specs.declared.followed.Followed.{Followed}
use Rattle.routing_expr.specs.Searches.{fields_in, IsLink}

-- ---- what is known of a cell that is there

pub live-mapped : {X Y : Type 0} (o : Option X) (f : X → Y) (y : Y) → Some y ≡ option_map f o → IsSome o
live-mapped None f y e = absurd (cc)
live-mapped (Some x) f y e = refl

pub dead-mapped : {X Y : Type 0} (o : Option X) (f : X → Y) → None ≡ option_map f o → IsSome o → ⊥
dead-mapped None f e live = cc
dead-mapped (Some x) f e live = cc

-- a field whose value a cell has is one of the cell's type
pub field-type : (s : StoreMap) (c : CellId) (f : FieldId) (ty : TypeId) (x : Value) →
    Some ty ≡ option_map (λ (cell : CellEntry). cell.variant.ty) (cell_of s c) →
    field_value s c f ≡ Some x → f.ty ≡ ty
field-type s c f ty x typed value = by (cell_of s c) typed value
  where
    tested : (b : Bool) (o : Option Value) → cond b o None ≡ Some x → b ≡ true
    tested true o e = refl
    tested false o e = absurd (cc)

    by : (o : Option CellEntry) → Some ty ≡ option_map (λ (cell : CellEntry). cell.variant.ty) o →
        option_and_then (λ cell. field_of cell f) o ≡ Some x → f.ty ≡ ty
    by None typed value = absurd (cc)
    by (Some cell) typed value =
        let numbers : cell.variant.ty.0 ≡ f.ty.0 = eqb-true cell.variant.ty.0 f.ty.0 (tested (eqb cell.variant.ty.0 f.ty.0) _ value) in
        let same : ty ≡ cell.variant.ty = same_Some ty cell.variant.ty typed in
        (λ i. record { 0 = sym numbers i }) ∙ sym same

IsSomeAnd-within : {X : Type 0} (xs : List X) (i : ℕ) (P : X → Type 0) → IsSomeAnd (slice_get xs i) P → i < length xs
IsSomeAnd-within {X} xs i P h = by (slice_get xs i) refl h
  where
    by : (o : Option X) → slice_get xs i ≡ o → IsSomeAnd o P → i < length xs
    by None at h = absurd h
    by (Some x) at h = slice_get_within xs i x at

-- a field that leads somewhere is one of the fields of the cell's type
pub Leads-field : (types : List TypeEntry) (s : StoreMap) (fields : Fields) (f : FieldId) (a b : CellId) (ty : TypeId) →
    Some ty ≡ option_map (λ (cell : CellEntry). cell.variant.ty) (cell_of s a) → Leads types s fields f a b →
    (f ≡ record { ty = ty; index = f.index }) × (f.index < length (fields_of types ty))
Leads-field types s fields f a b ty typed h =
    let same = field-type s a f ty _ typed h.value in (
      (λ i. record { ty = same i; index = f.index }),
      subst (λ t. f.index < length (fields_of types t)) same (IsSomeAnd-within (fields_of types f.ty) f.index _ h.kind),
    )

-- ---- links place by place

-- a link from the parent by the field with this index
pub record LinkAt (types : List TypeEntry) (s : StoreMap) (followed : Followed) (parent : CellId) (ty : TypeId) (index : ℕ) (link : Link) : Type 0 where
  pub parent_is : link.parent ≡ parent
  pub field_is : link.field ≡ record { ty = ty; index = index }
  pub is : IsLink types s (fields_in followed) link

abbrev pub link : CellId → CellId → TypeId → ℕ → Link
link child parent ty index = record { child = child; parent = parent; field = record { ty = ty; index = index } }

pub LinkAt-child : (types : List TypeEntry) (s : StoreMap) (followed : Followed) (parent : CellId) (ty : TypeId) (index : ℕ) (child : CellId) →
    ((d : CellId) → (Some child ≡ Some d) ↔ Leads types s (fields_in followed) (record { ty = ty; index = index }) parent d) →
    (x : Link) → (x ≡ link child parent ty index) ↔ LinkAt types s followed parent ty index x
LinkAt-child types s followed parent ty index child leads x = (
  λ same. subst (λ y. LinkAt types s followed parent ty index y) (sym same) (record { parent_is = refl; field_is = refl; is = (leads child).0 refl }),
  λ h.
      let step : Leads types s (fields_in followed) (record { ty = ty; index = index }) parent x.child =
      subst (λ f. Leads types s (fields_in followed) f parent x.child) h.field_is
      (subst (λ p. Leads types s (fields_in followed) x.field p x.child) h.parent_is h.is) in
      let child_is = same_Some child x.child ((leads x.child).1 step) in
      λ i. record { child = sym child_is i; parent = h.parent_is i; field = h.field_is i },
)

pub LinkAt-none : (types : List TypeEntry) (s : StoreMap) (followed : Followed) (parent : CellId) (ty : TypeId) (index : ℕ) →
    ((d : CellId) → (None ≡ Some d) ↔ Leads types s (fields_in followed) (record { ty = ty; index = index }) parent d) →
    (x : Link) → LinkAt types s followed parent ty index x → ⊥
LinkAt-none types s followed parent ty index leads x h =
    none_some x.child ((leads x.child).1 (subst (λ f. Leads types s (fields_in followed) f parent x.child) h.field_is
    (subst (λ p. Leads types s (fields_in followed) x.field p x.child) h.parent_is h.is)))
  where
    none_some : (c : CellId) → None ≡ Some c → ⊥
    none_some c e = cc

-- after the last field these are the links from the parent
pub LinkAt-all : (types : List TypeEntry) (s : StoreMap) (followed : Followed) (parent : CellId) (ty : TypeId) (n : ℕ) →
    Some ty ≡ option_map (λ (cell : CellEntry). cell.variant.ty) (cell_of s parent) → length (fields_of types ty) ≤ n →
    (x : Link) → Before (LinkAt types s followed parent ty) n x ↔ ((x.parent ≡ parent) × IsLink types s (fields_in followed) x)
LinkAt-all types s followed parent ty n typed enough x = (
  λ h. (h.at.parent_is, h.at.is),
  λ h.
      let step : Leads types s (fields_in followed) x.field parent x.child = subst (λ p. Leads types s (fields_in followed) x.field p x.child) h.0 h.1 in
      let of_type = Leads-field types s (fields_in followed) x.field parent x.child ty typed step in
      let inside = of_type.1 in
      record { place = x.field.index; before = omega arith; at = record { parent_is = h.0; field_is = of_type.0; is = h.1 } },
)

-- a dead cell has no link
pub LinkAt-dead : (types : List TypeEntry) (s : StoreMap) (followed : Followed) (parent : CellId) →
    None ≡ option_map (λ (cell : CellEntry). cell.variant.ty) (cell_of s parent) →
    (x : Link) → (x.parent ≡ parent) × IsLink types s (fields_in followed) x → ⊥
LinkAt-dead types s followed parent dead x h =
    dead-mapped (cell_of s parent) (λ cell. cell.variant.ty) dead
    (subst (λ p. IsLive s p) h.0 (Leads-live types s (fields_in followed) x.field x.parent x.child h.1).0)

-- ---- cells place by place

-- a link from the live cell at the place
pub record CellAt (types : List TypeEntry) (s : StoreMap) (followed : Followed) (place : ℕ) (x : Link) : Type 0 where
  pub at : slice_get (keys s.cells) place ≡ Some x.parent.0
  pub is : IsLink types s (fields_in followed) x

pub CellAt-parent : (types : List TypeEntry) (s : StoreMap) (followed : Followed) (place : ℕ) (parent : CellId) →
    Some parent ≡ option_map (λ number. record { 0 = number }) (slice_get (keys s.cells) place) →
    (x : Link) → ((x.parent ≡ parent) × IsLink types s (fields_in followed) x) ↔ CellAt types s followed place x
CellAt-parent types s followed place parent is x = by (slice_get (keys s.cells) place) refl is
  where
    by : (o : Option ℕ) → slice_get (keys s.cells) place ≡ o → Some parent ≡ option_map (λ number. record { 0 = number }) o →
        ((x.parent ≡ parent) × IsLink types s (fields_in followed) x) ↔ CellAt types s followed place x
    by None at is = absurd (cc)
    by (Some number) at is =
        let same : parent.0 ≡ number = ap (λ (c : CellId). c.0) (same_Some parent (record { 0 = number }) is) in (
          λ h. record { at = at ∙ ap Some (sym same ∙ sym (ap (λ (c : CellId). c.0) h.0)); is = h.1 },
          λ h. let numbers : number ≡ x.parent.0 = same_Some number x.parent.0 (sym at ∙ h.at) in ((λ i. record { 0 = sym (same ∙ numbers) i }), h.is),
        )

pub CellAt-all : (types : List TypeEntry) (s : StoreMap) (followed : Followed) (n : ℕ) → length (keys s.cells) ≤ n →
    (x : Link) → Before (CellAt types s followed) n x ↔ IsLink types s (fields_in followed) x
CellAt-all types s followed n enough x = (
  λ h. h.at.is,
  λ h.
      let key = key_of_live s x.parent (Leads-live types s (fields_in followed) x.field x.parent x.child h).0 in
      let inside = slice_get_within (keys s.cells) key.0 x.parent.0 key.1 in
      record { place = key.0; before = omega arith; at = record { at = key.1; is = h } },
)

-- a list put in order has the same
pub HasAll-sorted : {X : Type 0} (P : X → Type 0) (xs ys : List X) → IsPermutation xs ys → HasAll xs P → HasAll ys P
HasAll-sorted P xs ys order h x = (
  λ there. (h x).0 (Contains-permutation ys xs x (IsPermutation-sym xs ys order) there),
  λ p. Contains-permutation xs ys x order ((h x).1 p),
)
