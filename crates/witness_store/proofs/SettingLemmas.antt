-- Pointer fields set one after the other.
use Rattle.std.proofs.Common.{◌≡◌, ◌⊎◌, ◌<◌, ◌≤◌, ◌+◌, ℕ, zero, suc, inl, inr, List, [], ◌∷◌, slice_get, length, Option, Some, None, IsSome, IsSomeAnd, IfSome}
use Rattle.std.proofs.Common.{refl, sym, ap, ◌∙◌, subst, arith}
use Rattle.std.specs.Prelude.{is_some}
use Rattle.std.proofs.lemmas.Bool.{cases_eq}
use Rattle.std.proofs.lemmas.Option.{slice_get_within, same_Some}
use Rattle.store_core.specs.declared.ids.FieldId.{FieldId}
use Rattle.store_core.specs.declared.ids.CellId.{CellId}
use Rattle.store_core.specs.declared.kind.FieldKind.{FieldKind}
use Rattle.store_core.specs.declared.kind.FieldKind.TheVariants as field
use Rattle.store_core.specs.declared.value.Value.{Value}
use Rattle.store_core.specs.declared.value.Value.TheVariants as value
use Rattle.store_core.specs.Tables.{TypeEntry, VarEntry, FieldEntry, field_at}
use Rattle.store_core.specs.Stores.{StoreMap, CellEntry, IsFresh, Fits, NamesBelow, NamesType, FieldFits, cell_of, field_value, set_field, class_of}
use Rattle.store_core.proofs.AboveLemmas.{live_below}
use Rattle.store_core.proofs.FittingLemmas.{IfSome-from}
use Rattle.store_laws.specs.Changed.{IsFieldSet}
use Rattle.store_laws.proofs.CellLemmas.{cell_cases}
use Rattle.store_laws.proofs.ChangeLemmas.{IsFieldSet-set_field}
use Rattle.store_laws.proofs.FitsLemmas.{Fits-set_field}
use Rattle.store_laws.proofs.FreshLemmas.{IsFresh-set_field}
use Rattle.routing_walks.specs.Destinations.{EndsKind, Dest, IsPointer}
use Rattle.routing_walks.specs.Gathering.{HasAll}
use Rattle.routing_walks.specs.Sets.{Lists}
use Rattle.routing_walks.proofs.GatheringLemmas.{below_suc, Contains-at, place_in}
use Rattle.routing_walks.proofs.DecidedStores.{dests}
use Rattle.witness_store.specs.declared.finding.Pointing.{Pointing}
use Rattle.witness_store.specs.Only.{IsOnlyCell}
use Rattle.witness_store.specs.Pointers.{IsPointerField, IsDestinationIfOne, ArePointersSet, DoCellsFit, IsSameButPointers}
use Rattle.witness_store.specs.PointerFinding.{IsPointing}
use Rattle.witness_store.proofs.OnlyLemmas.{IsOnlyCell-alike, IsOnlyCell-once}
use Rattle.witness_store.proofs.AlikeLemmas.{alike_itself, alike_both, by_variant, live_alike, value_kind, AreAlike-same}
use Rattle.witness_store.proofs.KeptLemmas.{DoCellsFit-set_field}

-- ---- one cell at most of a list

-- the only one of the cells that are listed
pub only_listed : (P : CellId → Type 0) (cells : List CellId) → Lists P cells → (o : Option CellId) × IsOnlyCell P o
only_listed P [] listed = (None, inl (λ d p. let place = place_in [] d ((listed.members d).1 p) in absurd (nothing place.0 d place.1)))
  where
    nothing : (i : ℕ) (d : CellId) → slice_get [] i ≡ Some d → ⊥
    nothing i d e = cc
only_listed P (c ∷ []) listed = (
  Some c,
  ((listed.members c).0 (Contains-at (c ∷ []) 0 c refl), λ e p. let place = place_in (c ∷ []) e ((listed.members e).1 p) in first place.0 e place.1),
)
  where
    first : (i : ℕ) (e : CellId) → slice_get (c ∷ []) i ≡ Some e → e ≡ c
    first zero e at = sym (same_Some c e at)
    first (suc i) e at = absurd (cc)
only_listed P (c ∷ d ∷ cells) listed =
    let below = listed.rising.0.0 in (
      None,
      inr (record {
        one = c;
        other = d;
        apart = λ same. let numbers : c.0 ≡ d.0 = ap (λ (x : CellId). x.0) same in absurd (omega arith);
        one_is = (listed.members c).0 (Contains-at (c ∷ d ∷ cells) 0 c refl);
        other_is = (listed.members d).0 (Contains-at (c ∷ d ∷ cells) 1 d refl);
      }),
    )

-- ---- what is set

-- a value that a pointer field has to hold, in a store whose cells are those of the first
fits_kind : (types : List TypeEntry) (s t : StoreMap) → IsSameButPointers types s t → (c : CellId) (kind : FieldKind) (o : Option CellId) → IsPointer kind →
    ((d : CellId) → o ≡ Some d → EndsKind types s kind c d) → FieldFits t kind (value.Cell o)
fits_kind types s t k c field.Bool o pointer ends = absurd pointer
fits_kind types s t k c (field.Data target) o pointer ends = absurd pointer
fits_kind types s t k c (field.Pointer target along) o pointer ends = by o ends
  where
    named : (e : Option CellEntry) (d : CellId) → IsSomeAnd e (λ cell. cell.variant.ty ≡ target) → IfSome e (λ cell. cell.variant.ty ≡ target)
    named None d h = tt
    named (Some cell) d h = h

    by : (o : Option CellId) → ((d : CellId) → o ≡ Some d → EndsKind types s (field.Pointer target along) c d) → IfSome o (NamesType t target)
    by None ends = tt
    by (Some d) ends = named (cell_of t d) d (by_variant types s t k (λ v. v.ty ≡ target) d (ends d refl).of_target)

pub fits_to : (types : List TypeEntry) (s t : StoreMap) → IsSameButPointers types s t → (x : Pointing) → IsPointing types s x →
    IsSomeAnd (field_at types x.field) (λ entry. FieldFits t entry.kind (value.Cell x.to))
fits_to types s t k x is = by (field_at types x.field) is.kind (λ d e. dest x.to is.to d e)
  where
    dest : (o : Option CellId) → IsOnlyCell (Dest types s x.cell x.field) o → (d : CellId) → o ≡ Some d → Dest types s x.cell x.field d
    dest None only d e = absurd (cc)
    dest (Some b) only d e = subst (Dest types s x.cell x.field) (same_Some b d e) only.0

    by : (e : Option FieldEntry) → IsSomeAnd e (λ entry. IsPointer entry.kind) →
        ((d : CellId) → x.to ≡ Some d → IsSomeAnd e (λ entry. EndsKind types s entry.kind x.cell d)) →
        IsSomeAnd e (λ entry. FieldFits t entry.kind (value.Cell x.to))
    by None pointer ends = absurd pointer
    by (Some entry) pointer ends = fits_kind types s t k x.cell entry.kind x.to pointer ends

-- a pointer field holds null or a cell
holds_cell : (t : StoreMap) (kind : FieldKind) (old : Value) → IsPointer kind → FieldFits t kind old → (o : Option CellId) → class_of (value.Cell o) ≡
    class_of old
holds_cell t field.Bool old pointer fit o = absurd pointer
holds_cell t (field.Data target) old pointer fit o = absurd pointer
holds_cell t (field.Pointer target along) (value.Bool b) pointer fit o = absurd fit
holds_cell t (field.Pointer target along) (value.Cell c) pointer fit o = refl
holds_cell t (field.Pointer target along) (value.Cells cells) pointer fit o = absurd fit

pub same_class : (types : List TypeEntry) (s t : StoreMap) → IsSameButPointers types s t → DoCellsFit types t → (x : Pointing) → IsPointing types s x →
    IsSomeAnd (field_value t x.cell x.field) (λ old. class_of (value.Cell x.to) ≡ class_of old)
same_class types s t k fits x is = by (field_value t x.cell x.field) refl (k.pointers x.cell x.field ∙ is.has)
  where
    kinds : (old : Value) (e : Option FieldEntry) → IsSomeAnd e (λ entry. IsPointer entry.kind) → IsSomeAnd e (λ entry. FieldFits t entry.kind old) →
        class_of (value.Cell x.to) ≡ class_of old
    kinds old None pointer fit = absurd pointer
    kinds old (Some entry) pointer fit = holds_cell t entry.kind old pointer fit x.to

    by : (o : Option Value) → field_value t x.cell x.field ≡ o → IsSome o → IsSomeAnd o (λ old. class_of (value.Cell x.to) ≡ class_of old)
    by None at some = absurd (cc)
    by (Some old) at some = kinds old (field_at types x.field) is.kind (value_kind types t fits x.cell x.field old at)

below_next : (types : List TypeEntry) (s t : StoreMap) → IsSameButPointers types s t → IsFresh t → (x : Pointing) → IsPointing types s x →
    NamesBelow t.next (value.Cell x.to)
below_next types s t k fresh x is = by x.to is.to
  where
    live : (d : CellId) (e : Option FieldEntry) → IsSomeAnd e (λ entry. EndsKind types s entry.kind x.cell d) → IsSome (cell_of s d)
    live d None ends = absurd ends
    live d (Some entry) ends = kinds entry.kind ends
      where
        there : (o : Option CellEntry) (P : CellEntry → Type 0) → IsSomeAnd o P → IsSome o
        there None P h = absurd h
        there (Some cell) P h = refl

        kinds : (kind : FieldKind) → EndsKind types s kind x.cell d → IsSome (cell_of s d)
        kinds field.Bool h = absurd h
        kinds (field.Data target) h = absurd h
        kinds (field.Pointer target along) h = there (cell_of s d) _ h.of_target

    by : (o : Option CellId) → IsOnlyCell (Dest types s x.cell x.field) o → IfSome o (λ cell. cell.0 < t.next)
    by None only = tt
    by (Some d) only = live_below t d fresh.cells (live_alike types s t k d (live d (field_at types x.field) only.0))

-- ---- one after the other

-- two fields of cells are one, or not
place_cases : (c d : CellId) (f g : FieldId) → ((c ≡ d) × (f ≡ g)) ⊎ ((c ≡ d → f ≡ g → ⊥))
place_cases c d f g = elim (cell_cases c d) [
  | inr apart ↦ inr (λ same e. apart same)
  | inl same ↦ elim (cases_eq f.ty.0 g.ty.0) [
    | inr apart ↦ inr (λ s e. apart (ap (λ (x : FieldId). x.ty.0) e))
    | inl types ↦ elim (cases_eq f.index g.index) [
      | inr apart ↦ inr (λ s e. apart (ap (λ (x : FieldId). x.index) e))
      | inl indexes ↦ inl (same, λ i. record { ty = record { 0 = types i }; index = indexes i })
    ]
  ]
]

-- the first of the pointer fields are set, and nothing else
pub record AreSetBefore (types : List TypeEntry) (s : StoreMap) (found : List Pointing) (n : ℕ) (t : StoreMap) : Type 0 where
  pub kept : IsSameButPointers types s t
  pub set : (i : ℕ) (x : Pointing) → i < n → slice_get found i ≡ Some x → field_value t x.cell x.field ≡ Some (value.Cell x.to)
  pub cells_fit : DoCellsFit types t
  pub fits : (vars : List VarEntry) → Fits types vars s → Fits types vars t
  pub fresh : IsFresh s → IsFresh t

pub set_start : (types : List TypeEntry) (s : StoreMap) (found : List Pointing) → DoCellsFit types s → AreSetBefore types s found 0 s
set_start types s found fits = record {
  kept = alike_itself types s;
  set = λ i x below at. absurd (omega arith);
  cells_fit = fits;
  fits = λ vars h. h;
  fresh = λ h. h;
}

module _ (types : List TypeEntry) (s : StoreMap) (found : List Pointing) (all : HasAll found (IsPointing types s)) (n : ℕ) (x : Pointing)
    (at : slice_get found n ≡ Some x) (t : StoreMap) (before : AreSetBefore types s found n t) where
  is : IsPointing types s x
  is = (all x).0 (Contains-at found n x at)

  has : IsSome (field_value t x.cell x.field)
  has = before.kept.pointers x.cell x.field ∙ is.has

  abbrev u : StoreMap
  u = set_field t x.cell x.field (value.Cell x.to)

  is_set : IsFieldSet x.cell x.field (value.Cell x.to) t u
  is_set = IsFieldSet-set_field t x.cell x.field (value.Cell x.to) has

  -- any other field, and that of another cell
  others : (c : CellId) (f : FieldId) → (c ≡ x.cell → f ≡ x.field → ⊥) → field_value u c f ≡ field_value t c f
  others c f apart = elim (cell_cases c x.cell) [
    | inr other ↦ is_set.fields_of_others c f other
    | inl same ↦ subst (λ d. field_value u d f ≡ field_value t d f) (sym same) (is_set.other_fields f (λ e. apart same e))
  ]

  kept_next : IsSameButPointers types t u
  kept_next = record {
    variants = is_set.variants;
    fields = λ c f not. others c f (λ same e. not (subst (IsPointerField types) (sym e) is.kind));
    pointers = λ c f. elim (place_cases c x.cell f x.field) [
      | inl same ↦ both c f (subst (λ d. IsSome (field_value u d f)) (sym same.0)
          (subst (λ g. IsSome (field_value u x.cell g)) (sym same.1) (ap is_some is_set.value)))
          (subst (λ d. IsSome (field_value t d f)) (sym same.0) (subst (λ g. IsSome (field_value t x.cell g)) (sym same.1) has))
      | inr apart ↦ ap is_some (others c f apart)
    ];
    vars = is_set.vars;
    next = is_set.next;
  }
    where
      both : (c : CellId) (f : FieldId) → IsSome (field_value u c f) → IsSome (field_value t c f) → is_some (field_value u c f) ≡ is_some (field_value t c f)
      both c f h k = h ∙ sym k

  once : (i : ℕ) (y : Pointing) → slice_get found i ≡ Some y → y.cell ≡ x.cell → y.field ≡ x.field → x.to ≡ y.to
  once i y at_y cells fields =
      let other : IsPointing types s y = (all y).0 (Contains-at found i y at_y) in
      IsOnlyCell-once (Dest types s x.cell x.field) x.to y.to is.to
      (subst (λ f. IsOnlyCell (Dest types s x.cell f) y.to) fields (subst (λ c. IsOnlyCell (Dest types s c y.field) y.to) cells other.to))

  set_next : (i : ℕ) (y : Pointing) → i < n + 1 → slice_get found i ≡ Some y → field_value u y.cell y.field ≡ Some (value.Cell y.to)
  set_next i y below at_y = elim (place_cases y.cell x.cell y.field x.field) [
    | inl same ↦ subst (λ c. field_value u c y.field ≡ Some (value.Cell y.to)) (sym same.0)
        (subst (λ f. field_value u x.cell f ≡ Some (value.Cell y.to)) (sym same.1)
        (is_set.value ∙ ap (λ o. Some (value.Cell o)) (once i y at_y same.0 same.1)))
    | inr apart ↦ elim (below_suc i n below) [
      | inl less ↦ others y.cell y.field apart ∙ before.set i y less at_y
      | inr last ↦
          let same : y ≡ x = same_Some y x (sym at_y ∙ subst (λ k. slice_get found k ≡ Some x) (sym last) at) in
          absurd (apart (ap (λ (z : Pointing). z.cell) same) (ap (λ (z : Pointing). z.field) same))
    ]
  ]

  fit : IsSomeAnd (field_at types x.field) (λ entry. FieldFits t entry.kind (value.Cell x.to))
  fit = fits_to types s t before.kept x is

  pub AreSetBefore-next : AreSetBefore types s found (n + 1) (set_field t x.cell x.field (value.Cell x.to))
  AreSetBefore-next = record {
    kept = alike_both types s t u before.kept kept_next;
    set = set_next;
    cells_fit = DoCellsFit-set_field types t x.cell x.field (value.Cell x.to) before.cells_fit has fit;
    fits = λ vars h. Fits-set_field types vars t x.cell x.field (value.Cell x.to) (before.fits vars h) has fit;
    fresh = λ h. IsFresh-set_field t x.cell x.field (value.Cell x.to) (before.fresh h) (below_next types s t before.kept (before.fresh h) x is);
  }

-- all of them
pub ArePointersSet-all : (types : List TypeEntry) (s : StoreMap) (found : List Pointing) → DoCellsFit types s → HasAll found (IsPointing types s) → (n : ℕ) →
    length found ≤ n → (t : StoreMap) → AreSetBefore types s found n t → ArePointersSet types t
ArePointersSet-all types s found fits all n enough t before c f pointer = IfSome-from (field_value t c f) _ (λ v at.
    let list = dests types s c f in
    let only = only_listed (Dest types s c f) list.0 list.1 in
    let x : Pointing = record { cell = c; field = f; to = only.0 } in
    let is : IsPointing types s x = record { kind = pointer; has = sym (before.kept.pointers c f) ∙ ap is_some at; to = only.1 } in
    let place = place_in found x ((all x).1 is) in
    let inside = slice_get_within found place.0 x place.1 in
    let held : field_value t c f ≡ Some (value.Cell only.0) = before.set place.0 x (omega arith) place.1 in
    subst (IsDestinationIfOne types t c f) (same_Some (value.Cell only.0) v (sym held ∙ at))
    (IsOnlyCell-alike (Dest types s c f) (Dest types t c f) ((AreAlike-same types s t fits before.cells_fit before.kept).destinations c f) only.0 only.1))
