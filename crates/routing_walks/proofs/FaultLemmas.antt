-- A store that fits its tables is well-formed where it has no fault.
use Rattle.std.proofs.Common.{◌≡◌, ◌⊎◌, ℕ, List, get_or, Option, Some, None, IsSomeAnd, IfSome, refl, sym, ap, ◌∙◌, subst, inl, inr}
use Rattle.std.proofs.lemmas.Bool.{cases_eq}
use Rattle.std.proofs.lemmas.List.{get_or_default}
use Rattle.std.proofs.lemmas.List.Elements.{All-from_recursion, All-contains}
use Rattle.store_core.specs.declared.ids.TypeId.{TypeId}
use Rattle.store_core.specs.declared.ids.VarId.{VarId}
use Rattle.store_core.specs.declared.ids.FieldId.{FieldId}
use Rattle.store_core.specs.declared.ids.CellId.{CellId}
use Rattle.store_core.specs.declared.kind.FieldKind.{FieldKind}
use Rattle.store_core.specs.declared.kind.FieldKind.TheVariants as field
use Rattle.store_core.specs.declared.kind.VarKind.{VarKind}
use Rattle.store_core.specs.declared.kind.VarKind.TheVariants as var
use Rattle.store_core.specs.declared.value.Value.{Value}
use Rattle.store_core.specs.declared.value.Value.TheVariants as value
use Rattle.store_core.specs.Tables.{TypeEntry, VarEntry, FieldEntry, field_at, var_at}
use Rattle.store_core.specs.Stores.{StoreMap, CellEntry, cell_of, field_value, var_value, IsLive, NamesType, FieldFits, VarFits, Fits}
use Rattle.store_core.proofs.FittingLemmas.{IfSome-from, IfSome-at, IsSomeAnd-at, var_at_value, slot_at_value}
use Rattle.routing_walks.specs.declared.fault.Place.{Place}
use Rattle.routing_walks.specs.declared.fault.Place.TheVariants as place
use Rattle.routing_walks.specs.Walks.{IsOfType}
use Rattle.routing_walks.specs.Destinations.{EndsKind, IsOnlyDestination, IsPointer}
use Rattle.routing_walks.specs.WellFormed.{NamesDead, HoldsDead, IsDanglingReference, IsDangling, IsShared, IsLeaked, IsWrongField, VarHoldsLive, IsRightField}
use Rattle.routing_walks.specs.WellFormed.{FieldHoldsLive, SetHoldsLive, IsBackbone, IsWellFormed}
use Rattle.routing_walks.specs.Reaching.{IsInSomeTree}

-- a cell of a type isn't dead
not_dead : (s : StoreMap) (target : TypeId) (d : CellId) → IsOfType s target d → cell_of s d ≡ None → ⊥
not_dead s target d of dead = let h : IsSomeAnd {T = CellEntry} None (λ cell. cell.variant.ty ≡ target) =
    subst (λ o. IsSomeAnd o (λ cell. cell.variant.ty ≡ target)) dead of in h

-- a name of the right type that isn't dead names a cell of the type
of_type : (s : StoreMap) (target : TypeId) (d : CellId) → NamesType s target d → (cell_of s d ≡ None → ⊥) → IsOfType s target d
of_type s target d = go (cell_of s d)
  where
    go : (o : Option CellEntry) → IfSome o (λ cell. cell.variant.ty ≡ target) → (o ≡ None → ⊥) → IsSomeAnd o (λ cell. cell.variant.ty ≡ target)
    go None names live = live refl
    go (Some cell) names live = names

-- two places are one or they are apart
pub place_cases : (p q : Place) → (p ≡ q) ⊎ (p ≡ q → ⊥)
place_cases (place.Var v) (place.Var w) =
    elim (cases_eq v.0 w.0) [
      | inl same ↦ inl (ap (λ (n : ℕ). place.Var (record { 0 = n })) same)
      | inr apart ↦ inr (λ e. apart (let is : v ≡ w = cc in ap (λ (x : VarId). x.0) is))
    ]
place_cases (place.Var v) (place.Field d g) = inr (λ e. cc)
place_cases (place.Field c f) (place.Var w) = inr (λ e. cc)
place_cases (place.Field c f) (place.Field d g) = elim (cases_eq c.0 d.0) [
  | inr apart ↦ inr (λ e. apart (let is : c ≡ d = cc in ap (λ (x : CellId). x.0) is))
  | inl cell ↦ elim (cases_eq f.ty.0 g.ty.0) [
    | inr apart ↦ inr (λ e. apart (let is : f ≡ g = cc in ap (λ (x : FieldId). x.ty.0) is))
    | inl type ↦ elim (cases_eq f.index g.index) [
      | inr apart ↦ inr (λ e. apart (let is : f ≡ g = cc in ap (λ (x : FieldId). x.index) is))
      | inl index ↦ inl (ap (λ (n : ℕ). place.Field (record { 0 = n }) f) cell ∙
          ap (λ (n : ℕ). place.Field d (record { ty = record { 0 = n }; index = f.index })) type ∙
          ap (λ (n : ℕ). place.Field d (record { ty = g.ty; index = n })) index)
    ]
  ]
]

module _ (types : List TypeEntry) (vars : List VarEntry) (s : StoreMap) (fits : Fits types vars s) where
  -- ---- a backbone with the right pointer fields has no cause at a cut

  module _ (backbone : IsBackbone types vars s) (pointers : (c : CellId) (f : FieldId) → IsSomeAnd (field_at types f) (λ entry. IsPointer entry.kind) →
      IfSome (field_value s c f) (IsOnlyDestination types s c f)) where
    var_lives : (kind : VarKind) (x : Value) → VarFits s kind x → VarHoldsLive s kind x → NamesDead s x → ⊥
    var_lives var.Bool (value.Bool b) fit h dead = dead
    var_lives var.Bool (value.Cell c) fit h dead = fit
    var_lives var.Bool (value.Cells cells) fit h dead = dead
    var_lives (var.Data target) (value.Bool b) fit h dead = dead
    var_lives (var.Data target) (value.Cell None) fit h dead = dead
    var_lives (var.Data target) (value.Cell (Some d)) fit h dead = not_dead s target d h dead
    var_lives (var.Data target) (value.Cells cells) fit h dead = dead
    var_lives (var.Pointer target) (value.Bool b) fit h dead = dead
    var_lives (var.Pointer target) (value.Cell None) fit h dead = dead
    var_lives (var.Pointer target) (value.Cell (Some d)) fit h dead = not_dead s target d h dead
    var_lives (var.Pointer target) (value.Cells cells) fit h dead = dead
    var_lives (var.LogicSet target) (value.Bool b) fit h dead = dead
    var_lives (var.LogicSet target) (value.Cell c) fit h dead = fit
    var_lives (var.LogicSet target) (value.Cells cells) fit h dead = dead
    var_lives var.LogicBool (value.Bool b) fit h dead = dead
    var_lives var.LogicBool (value.Cell c) fit h dead = fit
    var_lives var.LogicBool (value.Cells cells) fit h dead = dead

    dest_lives : (kind : FieldKind) (c d : CellId) → EndsKind types s kind c d → cell_of s d ≡ None → ⊥
    dest_lives field.Bool c d h dead = h
    dest_lives (field.Data target) c d h dead = h
    dest_lives (field.Pointer target along) c d h dead = not_dead s target d h.of_target dead

    field_lives : (c : CellId) (f : FieldId) (entry : FieldEntry) (kind : FieldKind) (x : Value) → field_at types f ≡ Some entry →
        entry.kind ≡ kind → field_value s c f ≡ Some x → FieldFits s kind x → NamesDead s x → ⊥
    field_lives c f entry kind (value.Bool b) at is_kind holds fit dead = dead
    field_lives c f entry kind (value.Cell None) at is_kind holds fit dead = dead
    field_lives c f entry kind (value.Cells cells) at is_kind holds fit dead = dead
    field_lives c f entry field.Bool (value.Cell (Some d)) at is_kind holds fit dead = fit
    field_lives c f entry (field.Data target) (value.Cell (Some d)) at is_kind holds fit dead =
        not_dead s target d (subst (λ k. FieldHoldsLive s k (value.Cell (Some d))) is_kind
        (IfSome-at _ _ _ holds (IfSome-at _ _ entry at (backbone.data_fields c f)))) dead
    field_lives c f entry (field.Pointer target along) (value.Cell (Some d)) at is_kind holds fit dead =
        let only = IfSome-at _ (IsOnlyDestination types s c f) _ holds
        (pointers c f (subst (λ o. IsSomeAnd o (λ e. IsPointer e.kind)) (sym at) (subst IsPointer (sym is_kind) tt))) in
        let dest = IsSomeAnd-at (field_at types f) _ only.0 in
        dest_lives dest.0.kind c d dest.2 dead

    pub no_reference : (p : Place) → IsDanglingReference s p → ⊥
    no_reference (place.Var v) h =
        let x = IsSomeAnd-at (var_value s v) _ h in
        let at = var_at_value types vars s fits v x.0 x.1 in
        var_lives at.entry.kind x.0 at.fits (IfSome-at _ _ x.0 x.1 (IfSome-at _ _ at.entry at.at (backbone.cell_vars v))) x.2
    no_reference (place.Field c f) h =
        let x = IsSomeAnd-at (field_value s c f) _ h in
        let at = slot_at_value types vars s fits c f x.0 x.1 in
        field_lives c f at.entry at.entry.kind x.0 at.at refl x.1 at.fits x.2

    pub no_shared : (c : CellId) → IsShared types vars s c → ⊥
    no_shared c h = h.apart (backbone.named_once c h.one h.other h.live h.by_one h.by_other)

    pub no_leak : (c : CellId) → IsLeaked types vars s c → ⊥
    no_leak c h = let t = backbone.reached c h.live in h.unreached t.0 t.1

    pub no_wrong_field : (c : CellId) (f : FieldId) → IsWrongField types s c f → ⊥
    no_wrong_field c f h =
        let wrong = IsSomeAnd-at (field_value s c f) _ h.wrong in
        wrong.2 (IfSome-at _ (IsOnlyDestination types s c f) wrong.0 wrong.1 (pointers c f h.kind))

  -- ---- a well-formed store has no fault

  module _ (is : IsWellFormed types vars s) where
    set_lives : (kind : VarKind) (x : Value) → VarFits s kind x → SetHoldsLive s kind x → HoldsDead s x → ⊥
    set_lives kind (value.Bool b) fit h dead = dead
    set_lives kind (value.Cell c) fit h dead = dead
    set_lives var.Bool (value.Cells cells) fit h dead = fit
    set_lives (var.Data target) (value.Cells cells) fit h dead = fit
    set_lives (var.Pointer target) (value.Cells cells) fit h dead = fit
    set_lives (var.LogicSet target) (value.Cells cells) fit h dead =
        not_dead s target dead.1 (All-contains (IsOfType s target) cells dead.1 h (dead.0, dead.2, dead.3)) dead.4
    set_lives var.LogicBool (value.Cells cells) fit h dead = fit

    no_set : (kind : FieldKind) (x : Value) → FieldFits s kind x → HoldsDead s x → ⊥
    no_set kind (value.Bool b) fit dead = dead
    no_set kind (value.Cell c) fit dead = dead
    no_set field.Bool (value.Cells cells) fit dead = fit
    no_set (field.Data target) (value.Cells cells) fit dead = fit
    no_set (field.Pointer target along) (value.Cells cells) fit dead = fit

    pub no_dangling : (p : Place) → IsDangling s p → ⊥
    no_dangling p (inl h) = no_reference is.backbone is.pointers p h
    no_dangling (place.Var v) (inr h) =
        let x = IsSomeAnd-at (var_value s v) _ h in
        let at = var_at_value types vars s fits v x.0 x.1 in
        set_lives at.entry.kind x.0 at.fits (IfSome-at _ _ x.0 x.1 (IfSome-at _ _ at.entry at.at (is.sets v))) x.2
    no_dangling (place.Field c f) (inr h) =
        let x = IsSomeAnd-at (field_value s c f) _ h in
        let at = slot_at_value types vars s fits c f x.0 x.1 in
        no_set at.entry.kind x.0 at.fits x.2

  -- ---- a store where no reference dangles, no cell is shared and none leaks is a backbone

  module _ (none : (p : Place) → IsDanglingReference s p → ⊥) where
    of_var : (v : VarId) (kind : VarKind) (x : Value) → var_value s v ≡ Some x → VarFits s kind x → VarHoldsLive s kind x
    of_var v var.Bool x holds fit = tt
    of_var v (var.Data target) (value.Bool b) holds fit = fit
    of_var v (var.Data target) (value.Cell None) holds fit = tt
    of_var v (var.Data target) (value.Cell (Some d)) holds fit = of_type s target d fit
        (λ dead. none (place.Var v) (subst (λ o. IsSomeAnd o (NamesDead s)) (sym holds) dead))
    of_var v (var.Data target) (value.Cells cells) holds fit = fit
    of_var v (var.Pointer target) (value.Bool b) holds fit = fit
    of_var v (var.Pointer target) (value.Cell None) holds fit = tt
    of_var v (var.Pointer target) (value.Cell (Some d)) holds fit = of_type s target d fit
        (λ dead. none (place.Var v) (subst (λ o. IsSomeAnd o (NamesDead s)) (sym holds) dead))
    of_var v (var.Pointer target) (value.Cells cells) holds fit = fit
    of_var v (var.LogicSet target) x holds fit = tt
    of_var v var.LogicBool x holds fit = tt

    of_field : (c : CellId) (f : FieldId) (kind : FieldKind) (x : Value) → field_value s c f ≡ Some x → FieldFits s kind x → FieldHoldsLive s kind x
    of_field c f field.Bool x holds fit = tt
    of_field c f (field.Data target) (value.Bool b) holds fit = fit
    of_field c f (field.Data target) (value.Cell None) holds fit = tt
    of_field c f (field.Data target) (value.Cell (Some d)) holds fit = of_type s target d fit
        (λ dead. none (place.Field c f) (subst (λ o. IsSomeAnd o (NamesDead s)) (sym holds) dead))
    of_field c f (field.Data target) (value.Cells cells) holds fit = fit
    of_field c f (field.Pointer target along) x holds fit = tt

    cell_vars : (v : VarId) → IfSome (var_at vars v) (λ entry. IfSome (var_value s v) (VarHoldsLive s entry.kind))
    cell_vars v = IfSome-from (var_at vars v) _ (λ entry at. IfSome-from (var_value s v) _ (λ x holds.
        let found = var_at_value types vars s fits v x holds in
        let same : found.entry ≡ entry = let both : Some found.entry ≡ Some entry = sym found.at ∙ at in cc in
        of_var v entry.kind x holds (subst (λ (e : VarEntry). VarFits s e.kind x) same found.fits)))

    data_fields : (c : CellId) (f : FieldId) → IfSome (field_at types f) (λ entry. IfSome (field_value s c f) (FieldHoldsLive s entry.kind))
    data_fields c f = IfSome-from (field_at types f) _ (λ entry at. IfSome-from (field_value s c f) _ (λ x holds.
        let found = slot_at_value types vars s fits c f x holds in
        let same : found.entry ≡ entry = let both : Some found.entry ≡ Some entry = sym found.at ∙ at in cc in
        of_field c f entry.kind x holds (subst (λ (e : FieldEntry). FieldFits s e.kind x) same found.fits)))

    pub backbone_from : ((c : CellId) → IsShared types vars s c → ⊥) → ((c : CellId) → IsLive s c → IsInSomeTree types vars s c) → IsBackbone types vars s
    backbone_from unshared reached = record {
      cell_vars = cell_vars;
      data_fields = data_fields;
      named_once = λ c p q live by_p by_q. elim (place_cases p q) [
        | inl same ↦ same
        | inr apart ↦ absurd (unshared c (record { live = live; one = p; other = q; apart = apart; by_one = by_p; by_other = by_q }))
      ];
      reached = λ c live. let t = reached c live in (t.var, t.in_tree);
    }

  -- ---- a store without faults is well-formed

  module _ (none : (p : Place) → IsDangling s p → ⊥) where
    of_set : (v : VarId) (kind : VarKind) (x : Value) → var_value s v ≡ Some x → VarFits s kind x → SetHoldsLive s kind x
    of_set v var.Bool x holds fit = tt
    of_set v (var.Data target) x holds fit = tt
    of_set v (var.Pointer target) x holds fit = tt
    of_set v (var.LogicSet target) (value.Bool b) holds fit = fit
    of_set v (var.LogicSet target) (value.Cell c) holds fit = fit
    of_set v (var.LogicSet target) (value.Cells cells) holds fit = λ k d within.
        of_type s target (get_or cells k d) (All-from_recursion (NamesType s target) cells fit.1 k d within)
        (λ dead. none (place.Var v) (inr (subst (λ o. IsSomeAnd o (HoldsDead s)) (sym holds)
        (k, get_or cells k d, within, get_or_default cells k (get_or cells k d) d within, dead))))
    of_set v var.LogicBool x holds fit = tt

    sets : (v : VarId) → IfSome (var_at vars v) (λ entry. IfSome (var_value s v) (SetHoldsLive s entry.kind))
    sets v = IfSome-from (var_at vars v) _ (λ entry at. IfSome-from (var_value s v) _ (λ x holds.
        let found = var_at_value types vars s fits v x holds in
        let same : found.entry ≡ entry = let both : Some found.entry ≡ Some entry = sym found.at ∙ at in cc in
        of_set v entry.kind x holds (subst (λ (e : VarEntry). VarFits s e.kind x) same found.fits)))

    pub well_formed_from : ((c : CellId) → IsShared types vars s c → ⊥) → ((c : CellId) → IsLive s c → IsInSomeTree types vars s c) →
        ((c : CellId) (f : FieldId) → IsRightField types s c f) → IsWellFormed types vars s
    well_formed_from unshared reached right = record {
      fits = fits;
      backbone = backbone_from (λ p h. none p (inl h)) unshared reached;
      pointers = right;
      sets = sets;
    }
