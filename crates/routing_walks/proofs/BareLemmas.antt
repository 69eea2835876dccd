-- A store with null in every pointer field: what data fields say of it.
use Rattle.std.proofs.Common.{◌≡◌, ◌↔◌, ℕ, zero, suc, Bool, true, false, cond, List, [], ◌∷◌, map, slice_get, Option, Some, None, IsSome, IsSomeAnd}
use Rattle.std.proofs.Common.{IfSome, refl, sym, ap, ◌∙◌, subst, arith, nat_eq}
use Rattle.std.specs.Prelude.{option_map}
use Rattle.std.specs.Option.{option_and_then}
use Rattle.std.specs.List.{AllByRecursion}
use Rattle.std.specs.Ordering.{nat_cmp, eq_by_cmp}
use Rattle.std.specs.FinMap.{entries, find, from_entries, get-entries, get-from_entries}
use Rattle.std.proofs.lemmas.Bool.Decides.{nat_tests}
use Rattle.std.proofs.lemmas.Cmp.{nat_cmp_total}
use Rattle.store_core.specs.declared.ids.TypeId.{TypeId}
use Rattle.store_core.specs.declared.ids.VariantId.{VariantId}
use Rattle.store_core.specs.declared.ids.FieldId.{FieldId}
use Rattle.store_core.specs.declared.ids.CellId.{CellId}
use Rattle.store_core.specs.declared.kind.FieldKind.{FieldKind}
use Rattle.store_core.specs.declared.kind.FieldKind.TheVariants as field
use Rattle.store_core.specs.declared.kind.VarKind.{VarKind}
use Rattle.store_core.specs.declared.kind.VarKind.TheVariants as var
use Rattle.store_core.specs.declared.value.Value.{Value}
use Rattle.store_core.specs.declared.value.Value.TheVariants as value
use Rattle.store_core.specs.Tables.{TypeEntry, VarEntry, FieldEntry, field_at, var_at, fields_of}
use Rattle.store_core.specs.Stores.{StoreMap, CellEntry, IsLive, cell_of, field_of, field_value, var_value, NamesType, FieldFits, VarFits, SlotFits}
use Rattle.store_core.specs.Stores.{SlotsFit, CellFits, VarsFit, Fits}
use Rattle.store_core.proofs.FittingLemmas.{IfSome-from, IfSome-at, IsSomeAnd-at, slot_at_value}
use Rattle.routing_walks.specs.declared.fault.Place.{Place}
use Rattle.routing_walks.specs.declared.fault.Place.TheVariants as place
use Rattle.routing_walks.specs.Walks.{DataAlone, IsFollowed, Leads, IsParent, IsOfVariant, Chain}
use Rattle.routing_walks.specs.Destinations.{EndsKind, Dest, IsPointer}
use Rattle.routing_walks.specs.WellFormed.{Names, HoldsOfType, VarHoldsLive, FieldHoldsLive, IsBackbone}
use Rattle.routing_walks.proofs.LiveLemmas.{Leads-live, Walk-live, IsParent-live, Chain-live}
use Rattle.routing_walks.proofs.MatchLemmas.{Matches, Walk-match, Chain-matched, parent_down}
use Rattle.routing_walks.specs.Refuting.{Refutes}
use Rattle.routing_walks.proofs.FitsOn.{above_from}

-- ---- the store

bare_slot : FieldKind → Option Value → Option Value
bare_slot field.Bool o = o
bare_slot (field.Data target) o = o
bare_slot (field.Pointer target along) o = option_map (λ x. value.Cell None) o

bare_slots : List FieldEntry → List (Option Value) → List (Option Value)
bare_slots [] xs = xs
bare_slots (f ∷ fs) [] = []
bare_slots (f ∷ fs) (x ∷ xs) = bare_slot f.kind x ∷ bare_slots fs xs

bare_cell : List TypeEntry → CellEntry → CellEntry
bare_cell types cell = record cell { values = bare_slots (fields_of types cell.variant.ty) cell.values }

-- the store with null in every pointer field
pub bare : List TypeEntry → StoreMap → StoreMap
bare types s = record s { cells = from_entries {R = nat_cmp} (map (λ e. (e.0, bare_cell types e.1)) (entries s.cells)) }

flat : List (Option Value) → ℕ → Option Value
flat xs i = option_and_then (λ v. v) (slice_get xs i)

bare_none : (kind : FieldKind) → bare_slot kind None ≡ None
unfolding bare_slot
bare_none field.Bool = refl
bare_none (field.Data target) = refl
bare_none (field.Pointer target along) = refl

bare_data : (kind : FieldKind) (o : Option Value) → IsFollowed DataAlone kind → bare_slot kind o ≡ o
unfolding bare_slot
bare_data field.Bool o h = refl
bare_data (field.Data target) o h = refl
bare_data (field.Pointer target along) o h = absurd h

bare_at : (fs : List FieldEntry) (xs : List (Option Value)) (i : ℕ) (entry : FieldEntry) → slice_get fs i ≡ Some entry →
    flat (bare_slots fs xs) i ≡ bare_slot entry.kind (flat xs i)
unfolding bare_slots flat
bare_at [] xs i entry at = absurd (cc)
bare_at (f ∷ fs) [] i entry at = sym (bare_none entry.kind)
bare_at (f ∷ fs) (x ∷ xs) zero entry at = let same : f ≡ entry = cc in ap (λ (g : FieldEntry). bare_slot g.kind x) same
bare_at (f ∷ fs) (x ∷ xs) (suc i) entry at = bare_at fs xs i entry at

same_number : (x y : ℕ) → nat_eq x y ≡ true → x ≡ y
same_number x y e = grind (arith, nat_tests)

module _ (types : List TypeEntry) (s : StoreMap) where
  find_bare : (es : List (ℕ × CellEntry)) (q : ℕ) → find nat_cmp q (map (λ e. (e.0, bare_cell types e.1)) es) ≡ option_map (bare_cell types) (find nat_cmp q es)
  find_bare [] q = refl
  find_bare (e ∷ es) q = either (eq_by_cmp nat_cmp q e.0) (find_bare es q)
    where
      either : (b : Bool) → find nat_cmp q (map (λ e. (e.0, bare_cell types e.1)) es) ≡ option_map (bare_cell types) (find nat_cmp q es) →
          cond b (Some (bare_cell types e.1)) (find nat_cmp q (map (λ e. (e.0, bare_cell types e.1)) es)) ≡
          option_map (bare_cell types) (cond b (Some e.1) (find nat_cmp q es))
      either true rest = refl
      either false rest = rest

  cell_bare : (c : CellId) → cell_of (bare types s) c ≡ option_map (bare_cell types) (cell_of s c)
  unfolding bare
  cell_bare c = get-from_entries nat_cmp_total (map (λ e. (e.0, bare_cell types e.1)) (entries s.cells)) c.0 ∙ find_bare (entries s.cells) c.0
      ∙ ap (option_map (bare_cell types)) (sym (get-entries s.cells c.0))

  -- a fact of cells that looks at their variants
  by_variant : (P : VariantId → Type 0) (c : CellId) → IsSomeAnd (cell_of s c) (λ cell. P cell.variant) ↔ IsSomeAnd (cell_of (bare types s) c)
      (λ cell. P cell.variant)
  unfolding bare_cell
  by_variant P c = (
    λ h. subst (λ o. IsSomeAnd o (λ cell. P cell.variant)) (sym (cell_bare c)) (to (cell_of s c) h),
    λ h. from (cell_of s c) (subst (λ o. IsSomeAnd o (λ cell. P cell.variant)) (cell_bare c) h),
  )
    where
      to : (o : Option CellEntry) → IsSomeAnd o (λ cell. P cell.variant) → IsSomeAnd (option_map (bare_cell types) o) (λ cell. P cell.variant)
      to None h = h
      to (Some cell) h = h

      from : (o : Option CellEntry) → IsSomeAnd (option_map (bare_cell types) o) (λ cell. P cell.variant) → IsSomeAnd o (λ cell. P cell.variant)
      from None h = h
      from (Some cell) h = h

  live_bare : (c : CellId) → IsLive s c ↔ IsLive (bare types s) c
  live_bare c = (λ h. subst IsSome (sym (cell_bare c)) (to (cell_of s c) h), λ h. from (cell_of s c) (subst IsSome (cell_bare c) h))
    where
      to : (o : Option CellEntry) → IsSome o → IsSome (option_map (bare_cell types) o)
      to None h = h
      to (Some cell) h = refl

      from : (o : Option CellEntry) → IsSome (option_map (bare_cell types) o) → IsSome o
      from None h = h
      from (Some cell) h = refl

  field_bare : (f : FieldId) (entry : FieldEntry) → field_at types f ≡ Some entry → (cell : CellEntry)
      → field_of (bare_cell types cell) f ≡ bare_slot entry.kind (field_of cell f)
  unfolding bare_cell flat
  field_bare f entry at cell = tested (nat_eq cell.variant.ty.0 f.ty.0) (λ e. bare_at (fields_of types cell.variant.ty) cell.values f.index entry
      (subst (λ ty. slice_get (fields_of types ty) f.index ≡ Some entry)
      (sym (ap (λ (n : ℕ). record { 0 = n }) (same_number cell.variant.ty.0 f.ty.0 e))) at)) refl
    where
      tested : (b : Bool) → (nat_eq cell.variant.ty.0 f.ty.0 ≡ true →
          flat (bare_slots (fields_of types cell.variant.ty) cell.values) f.index ≡ bare_slot entry.kind (flat cell.values f.index)) →
          nat_eq cell.variant.ty.0 f.ty.0 ≡ b →
          cond b (flat (bare_slots (fields_of types cell.variant.ty) cell.values) f.index) None ≡ bare_slot entry.kind (cond b (flat cell.values f.index) None)
      tested true at e = at e
      tested false at e = sym (bare_none entry.kind)

  value_bare : (c : CellId) (f : FieldId) (entry : FieldEntry) → field_at types f ≡ Some entry
      → field_value (bare types s) c f ≡ bare_slot entry.kind (field_value s c f)
  value_bare c f entry at = ap (option_and_then (λ cell. field_of cell f)) (cell_bare c) ∙ opened (cell_of s c)
    where
      opened : (o : Option CellEntry) → option_and_then (λ cell. field_of cell f) (option_map (bare_cell types) o) ≡
          bare_slot entry.kind (option_and_then (λ cell. field_of cell f) o)
      opened None = sym (bare_none entry.kind)
      opened (Some cell) = field_bare f entry at cell

  -- the same of a data field
  data_bare : (c : CellId) (f : FieldId) → IsSomeAnd (field_at types f) (λ entry. IsFollowed DataAlone entry.kind) →
      field_value (bare types s) c f ≡ field_value s c f
  data_bare c f kind = let entry = IsSomeAnd-at (field_at types f) _ kind in
      value_bare c f entry.0 entry.1 ∙ bare_data entry.0.kind (field_value s c f) entry.2

  names_type_bare : (target : TypeId) (c : CellId) → NamesType s target c → NamesType (bare types s) target c
  unfolding bare_cell
  names_type_bare target c h = subst (λ o. IfSome o (λ (cell : CellEntry). cell.variant.ty ≡ target)) (sym (cell_bare c)) (to (cell_of s c) h)
    where
      to : (o : Option CellEntry) → IfSome o (λ cell. cell.variant.ty ≡ target) → IfSome (option_map (bare_cell types) o) (λ cell. cell.variant.ty ≡ target)
      to None h = tt
      to (Some cell) h = h

  -- ---- fitting

  reference_bare : (target : TypeId) (c : Option CellId) → IfSome c (NamesType s target) → IfSome c (NamesType (bare types s) target)
  reference_bare target None h = tt
  reference_bare target (Some c) h = names_type_bare target c h

  members_bare : (target : TypeId) (cells : List CellId) → AllByRecursion (NamesType s target) cells → AllByRecursion (NamesType (bare types s) target) cells
  members_bare target [] h = tt
  members_bare target (c ∷ cells) h = (names_type_bare target c h.0, members_bare target cells h.1)

  var_fits_bare : (kind : VarKind) (x : Value) → VarFits s kind x → VarFits (bare types s) kind x
  var_fits_bare var.Bool (value.Bool b) h = tt
  var_fits_bare var.Bool (value.Cell c) h = h
  var_fits_bare var.Bool (value.Cells cells) h = h
  var_fits_bare (var.Data target) (value.Bool b) h = h
  var_fits_bare (var.Data target) (value.Cell c) h = reference_bare target c h
  var_fits_bare (var.Data target) (value.Cells cells) h = h
  var_fits_bare (var.Pointer target) (value.Bool b) h = h
  var_fits_bare (var.Pointer target) (value.Cell c) h = reference_bare target c h
  var_fits_bare (var.Pointer target) (value.Cells cells) h = h
  var_fits_bare (var.LogicSet target) (value.Bool b) h = h
  var_fits_bare (var.LogicSet target) (value.Cell c) h = h
  var_fits_bare (var.LogicSet target) (value.Cells cells) h = (h.0, members_bare target cells h.1)
  var_fits_bare var.LogicBool (value.Bool b) h = tt
  var_fits_bare var.LogicBool (value.Cell c) h = h
  var_fits_bare var.LogicBool (value.Cells cells) h = h

  vars_fit_bare : (vs : List VarEntry) (xs : List Value) → VarsFit s vs xs → VarsFit (bare types s) vs xs
  vars_fit_bare [] [] h = tt
  vars_fit_bare [] (x ∷ xs) h = h
  vars_fit_bare (v ∷ vs) [] h = h
  vars_fit_bare (v ∷ vs) (x ∷ xs) h = (var_fits_bare v.kind x h.0, vars_fit_bare vs xs h.1)

  slot_fits_bare : (index : ℕ) (f : FieldEntry) (kind : FieldKind) (x : Value) → FieldFits s kind x
      → IsSomeAnd (bare_slot kind (Some x)) (FieldFits (bare types s) kind)
  unfolding bare_slot
  slot_fits_bare index f field.Bool (value.Bool b) h = tt
  slot_fits_bare index f field.Bool (value.Cell c) h = h
  slot_fits_bare index f field.Bool (value.Cells cells) h = h
  slot_fits_bare index f (field.Data target) (value.Bool b) h = h
  slot_fits_bare index f (field.Data target) (value.Cell c) h = reference_bare target c h
  slot_fits_bare index f (field.Data target) (value.Cells cells) h = h
  slot_fits_bare index f (field.Pointer target along) x h = tt

  slots_fit_bare : (index : ℕ) (fs : List FieldEntry) (xs : List (Option Value)) → SlotsFit s index fs xs → SlotsFit (bare types s) index fs (bare_slots fs xs)
  unfolding bare_slots
  slots_fit_bare index [] [] h = tt
  slots_fit_bare index [] (x ∷ xs) h = h
  slots_fit_bare index (f ∷ fs) [] h = h
  slots_fit_bare index (f ∷ fs) (None ∷ xs) h = (
    subst (λ o. SlotFits (bare types s) index f o) (sym (bare_none f.kind)) h.0,
    slots_fit_bare index fs xs h.1,
  )
  slots_fit_bare index (f ∷ fs) (Some x ∷ xs) h = (fitted (bare_slot f.kind (Some x)) (slot_fits_bare index f f.kind x h.0.1), slots_fit_bare index fs xs h.1)
    where
      fitted : (o : Option Value) → IsSomeAnd o (FieldFits (bare types s) f.kind) → SlotFits (bare types s) index f o
      fitted None k = absurd k
      fitted (Some y) k = (h.0.0, k)

  fits_bare : (vars : List VarEntry) → Fits types vars s → Fits types vars (bare types s)
  unfolding bare_cell bare
  fits_bare vars fits = record {
    cells = λ c. subst (λ o. IfSome o (CellFits types (bare types s))) (sym (cell_bare c)) (cell_fits (cell_of s c) (fits.cells c));
    values = vars_fit_bare vars s.vars fits.values;
    above = above_from s (bare types s) (λ c live. (live_bare c).1 live) refl fits.above;
  }
    where
      cell_fits : (o : Option CellEntry) → IfSome o (CellFits types s) → IfSome (option_map (bare_cell types) o) (CellFits types (bare types s))
      cell_fits None h = tt
      cell_fits (Some cell) h = record {
        variant = h.variant;
        values = slots_fit_bare cell.variant.index (fields_of types cell.variant.ty) cell.values h.values;
      }

-- ---- what data fields join

-- a live cell goes with itself
Itself : StoreMap → CellId → CellId → Type 0
Itself s a c = (a ≡ c) × IsLive s a

bool_field : (kind : FieldKind) (u : StoreMap) (b : Bool) → FieldFits u kind (value.Bool b) → (o : Option Value) → bare_slot kind o ≡ o
unfolding bare_slot
bool_field field.Bool u b h o = refl
bool_field (field.Data target) u b h o = absurd h
bool_field (field.Pointer target along) u b h o = absurd h

module _ (types : List TypeEntry) (vars : List VarEntry) (s : StoreMap) (fits : Fits types vars s) where
  leads_bare : (f : FieldId) (a b : CellId) → Leads types s DataAlone f a b → Leads types (bare types s) DataAlone f a b
  leads_bare f a b h = record { kind = h.kind; value = data_bare types s a f h.kind ∙ h.value; live = (live_bare types s b).0 h.live }

  bare_leads : (f : FieldId) (a b : CellId) → Leads types (bare types s) DataAlone f a b → Leads types s DataAlone f a b
  bare_leads f a b h = record { kind = h.kind; value = sym (data_bare types s a f h.kind) ∙ h.value; live = (live_bare types s b).1 h.live }

  truth_bare : (a : CellId) (f : FieldId) (b : Bool) → (field_value s a f ≡ Some (value.Bool b)) ↔ (field_value (bare types s) a f ≡ Some (value.Bool b))
  truth_bare a f b = (
    λ e. let entry = slot_at_value types vars s fits a f (value.Bool b) e in
        value_bare types s a f entry.entry entry.at ∙ bool_field entry.entry.kind s b entry.fits (field_value s a f) ∙ e,
    λ e. let entry = slot_at_value types vars (bare types s) (fits_bare types s vars fits) a f (value.Bool b) e in
        sym (value_bare types s a f entry.entry entry.at ∙ bool_field entry.entry.kind (bare types s) b entry.fits (field_value s a f)) ∙ e,
  )

  Matches-bare : Matches types DataAlone (Itself s) s (bare types s)
  unfolding Itself
  Matches-bare = record {
    one = λ a c d h k. sym h.0 ∙ k.0;
    other = λ a b c h k. h.0 ∙ sym k.0;
    live = λ a c h. (h.1, subst (IsLive (bare types s)) h.0 ((live_bare types s a).0 h.1));
    variant = λ a c h v. subst (λ x. IsOfVariant s v a ↔ IsOfVariant (bare types s) v x) h.0 (by_variant types s (λ w. w ≡ v) a);
    truth = λ a c h f b. subst (λ x. (field_value s a f ≡ Some (value.Bool b)) ↔ (field_value (bare types s) x f ≡ Some (value.Bool b))) h.0 (truth_bare a f b);
    down = λ f a b c h leads. (b, (refl, leads.live), subst (λ x. Leads types (bare types s) DataAlone f x b) h.0 (leads_bare f a b leads));
    up = λ f a b d h leads. (
      a,
      (refl, (Leads-live types s DataAlone f a b leads).0),
      subst (λ x. Leads types (bare types s) DataAlone f a x) h.0 (leads_bare f a b leads),
    );
    down_back = λ f a c d h leads. let k = bare_leads f c d leads in (d, (refl, k.live), subst (λ x. Leads types s DataAlone f x d) (sym h.0) k);
    up_back = λ f b c d h leads. let k = bare_leads f c d leads in
        (c, (refl, (Leads-live types s DataAlone f c d k).0), subst (λ x. Leads types s DataAlone f c x) (sym h.0) k);
  }

  ends_bare : (kind : FieldKind) (c d : CellId) → EndsKind types s kind c d → EndsKind types (bare types s) kind c d
  unfolding Itself
  ends_bare field.Bool c d h = h
  ends_bare (field.Data target) c d h = h
  ends_bare (field.Pointer target along) c d h = let live = Walk-live types s DataAlone along c d h.walk in record {
    walk = Walk-match types DataAlone (Itself s) s (bare types s) Matches-bare along c d c d (refl, live.0) (refl, live.1) h.walk;
    of_target = (by_variant types s (λ v. v.ty ≡ target) d).0 h.of_target;
  }

  dest_bare : (c : CellId) (f : FieldId) (d : CellId) → Dest types s c f d → Dest types (bare types s) c f d
  dest_bare c f d h = to (field_at types f) h
    where
      to : (o : Option FieldEntry) → IsSomeAnd o (λ entry. EndsKind types s entry.kind c d)
          → IsSomeAnd o (λ entry. EndsKind types (bare types s) entry.kind c d)
      to None k = k
      to (Some entry) k = ends_bare entry.kind c d k

  -- ---- the backbone

  holds_bare : (target : TypeId) (x : Value) → HoldsOfType s target x → HoldsOfType (bare types s) target x
  holds_bare target (value.Bool b) h = h
  holds_bare target (value.Cell None) h = tt
  holds_bare target (value.Cell (Some d)) h = (by_variant types s (λ v. v.ty ≡ target) d).0 h
  holds_bare target (value.Cells cells) h = h

  var_holds_bare : (kind : VarKind) (x : Value) → VarHoldsLive s kind x → VarHoldsLive (bare types s) kind x
  var_holds_bare var.Bool x h = tt
  var_holds_bare (var.Data target) x h = holds_bare target x h
  var_holds_bare (var.Pointer target) x h = holds_bare target x h
  var_holds_bare (var.LogicSet target) x h = tt
  var_holds_bare var.LogicBool x h = tt

  field_holds_bare : (kind : FieldKind) (o : Option Value) → IfSome o (FieldHoldsLive s kind) → IfSome (bare_slot kind o) (FieldHoldsLive (bare types s) kind)
  unfolding bare_slot
  field_holds_bare field.Bool o h = IfSome-from o _ (λ x e. tt)
  field_holds_bare (field.Data target) o h = IfSome-from o _ (λ x e. holds_bare target x (IfSome-at o _ x e h))
  field_holds_bare (field.Pointer target along) None h = tt
  field_holds_bare (field.Pointer target along) (Some x) h = tt

  bare_names : (p : Place) (c : CellId) → Names types vars (bare types s) p c → Names types vars s p c
  unfolding bare
  bare_names (place.Var v) c h = record { place = h.place; value = h.value }
  bare_names (place.Field a f) c h = record { place = h.place; value = sym (data_bare types s a f h.place) ∙ h.value }

  chain_bare : {a b : CellId} → Chain s (IsParent types s) a b → Chain (bare types s) (IsParent types (bare types s)) a b
  unfolding Itself
  chain_bare {a = a} {b = b} chain =
      let k = Chain-matched types DataAlone (Itself s) s (bare types s) Matches-bare
      (parent_down types DataAlone (Itself s) s (bare types s) Matches-bare) chain a
      (refl, (Chain-live (IsParent-live types s) chain).0) in
      subst (λ x. Chain (bare types s) (IsParent types (bare types s)) a x) (sym k.1.0) k.2

  backbone_bare : IsBackbone types vars s → IsBackbone types vars (bare types s)
  unfolding bare
  backbone_bare backbone = record {
    cell_vars = λ v. IfSome-from (var_at vars v) _ (λ entry at. IfSome-from (var_value s v) _ (λ x holds.
        var_holds_bare entry.kind x (IfSome-at (var_value s v) _ x holds (IfSome-at (var_at vars v) _ entry at (backbone.cell_vars v)))));
    data_fields = λ c f. IfSome-from (field_at types f) _ (λ entry at.
        subst (λ o. IfSome o (FieldHoldsLive (bare types s) entry.kind)) (sym (value_bare types s c f entry at))
        (field_holds_bare entry.kind (field_value s c f) (IfSome-at (field_at types f) _ entry at (backbone.data_fields c f))));
    named_once = λ c p q live by_p by_q. backbone.named_once c p q ((live_bare types s c).1 live) (bare_names p c by_p) (bare_names q c by_q);
    reached = λ c live.
        let tree = backbone.reached c ((live_bare types s c).1 live) in
        (tree.0, record { root = tree.1.root; named = record { place = tree.1.named.place; value = tree.1.named.value }; path = chain_bare tree.1.path });
  }

  null_slot : (kind : FieldKind) (o : Option Value) → IsPointer kind → IfSome (bare_slot kind o) (λ x. x ≡ value.Cell None)
  unfolding bare_slot
  null_slot field.Bool o h = absurd h
  null_slot (field.Data target) o h = absurd h
  null_slot (field.Pointer target along) None h = tt
  null_slot (field.Pointer target along) (Some x) h = refl

  there_slot : (kind : FieldKind) (o : Option Value) → IsSomeAnd o (λ x. Unit {0}) → IsSomeAnd (bare_slot kind o) (λ x. Unit {0})
  unfolding bare_slot
  there_slot kind None h = absurd h
  there_slot field.Bool (Some x) h = tt
  there_slot (field.Data target) (Some x) h = tt
  there_slot (field.Pointer target along) (Some x) h = tt

  -- two destinations on a backbone are two on that with null pointer fields
  pub refutes_bare : (f : FieldId) (c d e : CellId) → IsBackbone types vars s → IsSomeAnd (field_value s c f) (λ x. Unit {0}) → (d ≡ e → ⊥) →
      Dest types s c f d → Dest types s c f e → Refutes types vars (bare types s) f
  refutes_bare f c d e backbone has apart one other = record {
    fits = fits_bare types s vars fits;
    backbone = backbone_bare backbone;
    nulls = λ c g pointer. let entry = IsSomeAnd-at (field_at types g) _ pointer in
        subst (λ o. IfSome o (λ x. x ≡ value.Cell None)) (sym (value_bare types s c g entry.0 entry.1)) (null_slot entry.0.kind (field_value s c g) entry.2);
    cell = c;
    has = let entry = IsSomeAnd-at (field_at types f) _ one in
        subst (λ o. IsSomeAnd o (λ x. Unit {0})) (sym (value_bare types s c f entry.0 entry.1)) (there_slot entry.0.kind (field_value s c f) has);
    one = d;
    other = e;
    apart = apart;
    to_one = dest_bare c f d one;
    to_other = dest_bare c f e other;
  }
