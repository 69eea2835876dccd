-- The way down the tree of a store leads to the positions of its cells.
use Rattle.std.proofs.Common.{◌≡◌, ℕ, zero, suc, ◌+◌, ◌<◌, Bool, true, false, cond, nat_lt, inl, inr, List, [], ◌∷◌, ◌++◌, length, slice_get, unwrap_or}
use Rattle.std.proofs.Common.{option_map, Option, Some, None, IsSomeAnd, take, refl, sym, ap, ◌∙◌, subst, append_assoc, append-nil, arith}
use Rattle.std.specs.Prelude.{is_some, count_by}
use Rattle.std.specs.Option.{option_and_then}
use Rattle.std.proofs.lemmas.Bool.{ltb-true, lt-ltb}
use Rattle.std.proofs.lemmas.Option.{slice_get_cases, slice_get_within}
use Rattle.gta_theory.specs.Assignments.{Position}
use Rattle.store_core.specs.declared.ids.TypeId.{TypeId}
use Rattle.store_core.specs.declared.ids.FieldId.{FieldId}
use Rattle.store_core.specs.declared.ids.VarId.{VarId}
use Rattle.store_core.specs.declared.ids.CellId.{CellId}
use Rattle.store_core.specs.declared.kind.FieldKind.{FieldKind}
use Rattle.store_core.specs.declared.kind.FieldKind.TheVariants as field
use Rattle.store_core.specs.declared.kind.VarKind.{VarKind}
use Rattle.store_core.specs.declared.kind.VarKind.TheVariants as var
use Rattle.store_core.specs.declared.value.Value.{Value}
use Rattle.store_core.specs.declared.value.Value.TheVariants as value
use Rattle.store_core.specs.Tables.{TypeEntry, VarEntry, fields_of, field_at, var_at}
use Rattle.store_core.specs.Stores.{StoreMap, CellEntry, IsLive, cell_of, field_value, var_value}
use Rattle.store_core.proofs.FittingLemmas.{IsSomeAnd-at}
use Rattle.routing_walks.specs.declared.fault.Place.TheVariants as place
use Rattle.routing_walks.specs.Walks.{DataAlone, IsFollowed, Leads}
use Rattle.routing_walks.specs.WellFormed.{IsDataVar, Names}
use Rattle.routing_walks.specs.Paths.{LeadsAlong, StandsAt}
use Rattle.ws2s_forms.specs.Places.{ones, child_of, slot_of}
use Rattle.tree_encode.specs.declared.counting.Counted.TheVariants.{Children}
use Rattle.tree_encode.specs.Counting.{counts, is_counted, rank, is_data_var, is_data_kind}
use Rattle.tree_encode.specs.Tracks.{slot_of_var, child_number}
use Rattle.tree_encode.specs.Positions.{below, path_position, IsPlaced}
use Rattle.tree_encode.proofs.TracksLemmas.{cond-some, and_then-some, fielded}
use Rattle.tree_encode.proofs.PositionsLemmas.{data_field, data_var, numbered, slotted, own_type}
use Rattle.tree_store.specs.declared.rows.Row.{Row}
use Rattle.tree_store.specs.declared.rows.Rows.{Rows}
use Rattle.tree_store.specs.declared.spots.Spot.{Spot}
use Rattle.tree_store.specs.declared.spots.Spot.TheVariants.{Slot, Child}
use Rattle.tree_store.specs.Rows.{IsRow, IsRows}
use Rattle.tree_store.specs.Spots.{named_cell, row_of, cell_below, number_after, spot_after, spot_below, spot_at}
use Rattle.tree_store.proofs.RowsLemmas.{counts-at}

-- ---- words

ones-more : (i : ℕ) (w : Position) → ones i ++ true ∷ w ≡ ones (suc i) ++ w
ones-more zero w = refl
ones-more (suc i) w = ap (λ v. true ∷ v) (ones-more i w)

below-append : (types : List TypeEntry) (u : Position) (fields : List FieldId) → below types u fields ≡ u ++ below types [] fields
below-append types u [] = sym (append-nil u)
below-append types u (f ∷ fields) =
    let j = unwrap_or (child_number types f) 0 in
    below-append types (child_of j u) fields
    ∙ append_assoc u (ones j ++ false ∷ []) (below types [] fields)
    ∙ ap (λ w. u ++ w) (sym (below-append types (child_of j []) fields))

-- the word of a path below a cell
below-first : (types : List TypeEntry) (f : FieldId) (fields : List FieldId) (j : ℕ) → child_number types f ≡ Some j →
    below types [] (f ∷ fields) ≡ ones j ++ false ∷ below types [] fields
below-first types f fields j is =
    ap (λ o. below types (child_of (unwrap_or o 0) []) fields) is
    ∙ below-append types (child_of j []) fields
    ∙ append_assoc (ones j) (false ∷ []) (below types [] fields)

-- and of one from a slot
path-first : (types : List TypeEntry) (vars : List VarEntry) (v : VarId) (fields : List FieldId) (i : ℕ) → slot_of_var vars v ≡ Some i →
    path_position types vars v fields ≡ ones i ++ false ∷ below types [] fields
path-first types vars v fields i is =
    ap (λ o. below types (slot_of (unwrap_or o 0)) fields) is
    ∙ below-append types (slot_of i) fields
    ∙ append_assoc (ones i) (false ∷ []) (below types [] fields)

-- ---- cells that values name

some-cell : (a b : CellId) → Some a ≡ Some b → a ≡ b
some-cell a b e = cc

named-if : (s : StoreMap) (c d : CellId) (b : Bool) → is_some (cell_of s c) ≡ b → cond b (Some c) None ≡ Some d → (c ≡ d) × IsLive s c
named-if s c d true is e = (cc, is)
named-if s c d false is e = cc

pub named-some : (s : StoreMap) (o : Option Value) (d : CellId) → named_cell s o ≡ Some d → (o ≡ Some (value.Cell (Some d))) × IsLive s d
named-some s None d e = cc
named-some s (Some (value.Bool b)) d e = cc
named-some s (Some (value.Cells cells)) d e = cc
named-some s (Some (value.Cell None)) d e = cc
named-some s (Some (value.Cell (Some c))) d e =
    let (same, live) = named-if s c d (is_some (cell_of s c)) refl e in
    (ap (λ x. Some (value.Cell (Some x))) same, subst (λ x. IsLive s x) same live)

pub named-live : (s : StoreMap) (o : Option Value) (d : CellId) → o ≡ Some (value.Cell (Some d)) → IsLive s d → named_cell s o ≡ Some d
named-live s o d is live = ap (λ x. named_cell s x) is ∙ ap (λ b. cond b (Some d) None) live

-- ---- kinds

followed : (kind : FieldKind) → counts Children kind ≡ true → IsFollowed DataAlone kind
followed field.Bool e = cc
followed (field.Data ty) e = tt
followed (field.Pointer ty along) e = cc

data_named : (kind : VarKind) → is_data_kind kind ≡ true → IsDataVar kind
data_named var.Bool e = cc
data_named (var.Data ty) e = tt
data_named (var.Pointer ty) e = cc
data_named (var.LogicSet ty) e = cc
data_named var.LogicBool e = cc

pub map-some : {A B : Type 0} (f : A → B) (o : Option A) (y : B) → option_map f o ≡ Some y → (x : A) × (o ≡ Some x) × (f x ≡ y)
map-some f None y e = cc
map-some f (Some x) y e = (x, refl, cc)

number-after-some : (i count j : ℕ) → number_after i count ≡ Some j → (i + 1 < count) × (i + 1 ≡ j)
number-after-some i count j e =
    let both = cond-some (nat_lt (i + 1) count) (i + 1) j e in
    (ltb-true (i + 1) count both.0, both.1)

number-after-is : (i count : ℕ) → i + 1 < count → number_after i count ≡ Some (i + 1)
number-after-is i count less = ap (λ b. cond b (Some (i + 1)) None) (lt-ltb (i + 1) count less)

-- ---- in a `Some`

pub of-some : {X : Type 0} (P : X → Type 0) (o : Option X) (x : X) → o ≡ Some x → P x → IsSomeAnd o P
of-some P o x is h = subst (λ p. IsSomeAnd p P) (sym is) h

pub present : {X : Type 0} (xs : List X) (k : ℕ) → k < length xs → (x : X) × (slice_get xs k ≡ Some x)
present xs k inside = elim (slice_get_cases xs k).1 [
  | inl found ↦ (found.0, found.2)
  | inr past ↦ absurd (omega (arith, past.0, inside))
]

one_slot : (i k : ℕ) → Some (Slot i) ≡ Some (Slot k) → i ≡ k
one_slot i k e = cc

one_child : (c d : CellId) (i j : ℕ) → Some (Child c i) ≡ Some (Child d j) → (c ≡ d) × (i ≡ j)
one_child c d i j e = (cc, cc)

-- ---- steps

module _ (types : List TypeEntry) (vars : List VarEntry) (s : StoreMap) (rows : Rows) (is : IsRows types vars rows) where
  pub row-is : (c : CellId) (row : Row) → row_of rows s c ≡ Some row → (cell : CellEntry) × (cell_of s c ≡ Some cell) × IsRow types cell.variant.ty row
  row-is c row at =
      let (cell, there, has) = and_then-some (λ (cell : CellEntry). slice_get rows.types cell.variant.ty.0) (cell_of s c) row at in
      (cell, there, is.types.each cell.variant.ty.0 row has)

  -- a data field leads to the cell below a child
  child-leads : (c d : CellId) (j : ℕ) → cell_below rows s (Child c j) ≡ Some d →
      (f : FieldId) × Leads types s DataAlone f c d × (child_number types f ≡ Some j)
  child-leads c d j at =
      let (row, is_row, then) = and_then-some (λ (row : Row). option_and_then (λ f. named_cell s (field_value s c f)) (slice_get row.children j))
      (row_of rows s c) d at in
      let (f, there, names) = and_then-some (λ f. named_cell s (field_value s c f)) (slice_get row.children j) d then in
      let (cell, of_cell, right) = row-is c row is_row in
      let ty = cell.variant.ty in
      let (i, inside, number, same) = right.children.each j f there in
      let (entry, has, counted, before) = counts-at (is_counted Children) (fields_of types ty) i j number in
      let (holds, live) = named-some s (field_value s c f) d names in (
        f,
        record {
          kind = of-some (λ e. IsFollowed DataAlone e.kind) (field_at types f) entry (ap (λ g. field_at types g) same ∙ has) (followed entry.kind counted);
          value = holds;
          live = live;
        },
        ap (λ g. child_number types g) same ∙ number,
      )

  -- and the cell below a child is where the field leads
  leads-child : (f : FieldId) (c d : CellId) → Leads types s DataAlone f c d →
      (row : Row) × (j : ℕ) × (row_of rows s c ≡ Some row) × (child_number types f ≡ Some j) × (j < length row.children) × (cell_below rows s (Child
      c j) ≡ Some d)
  leads-child f c d leads =
      let (cell, there, typed) = own_type s c f (value.Cell (Some d)) leads.value in
      let (entry, has, is_data) = IsSomeAnd-at (field_at types f) (λ e. IsFollowed DataAlone e.kind) leads.kind in
      let (ty, kind) = data_field entry.kind is_data in
      let number = numbered types f entry ty has kind in
      let (t, at, same) = fielded types f entry has in
      let inside : f.ty.0 < length types = slice_get_within types f.ty.0 t at in
      let (row, row_at) = present rows.types f.ty.0 (omega (arith, is.types.count)) in
      let right : IsRow types f.ty row = is.types.each f.ty.0 row row_at in
      let child : slice_get row.children (rank Children types f) ≡ Some f =
      right.children.all f.index (rank Children types f) (slice_get_within (fields_of types f.ty) f.index entry has) number in
      let is_row : row_of rows s c ≡ Some row =
      ap (λ o. option_and_then (λ (x : CellEntry). slice_get rows.types x.variant.ty.0) o) there ∙ ap (λ (y : TypeId). slice_get rows.types y.0)
      typed ∙ row_at in (
        row,
        rank Children types f,
        is_row,
        number,
        slice_get_within row.children (rank Children types f) f child,
        ap (λ o. option_and_then (λ (r : Row). option_and_then (λ g. named_cell s (field_value s c g)) (slice_get r.children (rank Children types
            f))) o) is_row
            ∙ ap (λ o. option_and_then (λ g. named_cell s (field_value s c g)) o) child
            ∙ named-live s (field_value s c f) d leads.value leads.live,
      )

  -- the variable of a slot names the cell below it
  slot-names : (i : ℕ) (d : CellId) → cell_below rows s (Slot i) ≡ Some d →
      (v : VarId) × Names types vars s (place.Var v) d × IsLive s d × (slot_of_var vars v ≡ Some i)
  slot-names i d at =
      let (v, there, names) = and_then-some (λ v. named_cell s (var_value s v)) (slice_get rows.slots i) d at in
      let (k, inside, number, same) = is.slots.each i v there in
      let (entry, has, counted, before) = counts-at is_data_var vars k i number in
      let (holds, live) = named-some s (var_value s v) d names in (
        v,
        record {
          place = of-some (λ e. IsDataVar e.kind) (var_at vars v) entry (ap (λ w. var_at vars w) same ∙ has) (data_named entry.kind counted);
          value = holds;
        },
        live,
        ap (λ w. slot_of_var vars w) same ∙ number,
      )

  names-slot : (v : VarId) (d : CellId) → Names types vars s (place.Var v) d → IsLive s d →
      (i : ℕ) × (slot_of_var vars v ≡ Some i) × (i < length rows.slots) × (cell_below rows s (Slot i) ≡ Some d)
  names-slot v d names live =
      let (entry, has, is_data) = IsSomeAnd-at (var_at vars v) (λ e. IsDataVar e.kind) names.place in
      let (ty, kind) = data_var entry.kind is_data in
      let i = count_by is_data_var (take v.0 vars) in
      let number = slotted vars v entry ty has kind in
      let slot : slice_get rows.slots i ≡ Some v = is.slots.all v.0 i (slice_get_within vars v.0 entry has) number in (
        i,
        number,
        slice_get_within rows.slots i v slot,
        ap (λ o. option_and_then (λ w. named_cell s (var_value s w)) o) slot ∙ named-live s (var_value s v) d names.value live,
      )

  -- ---- from spots to paths

  child-not-slot : (w : Position) (c : CellId) (j k : ℕ) → spot_at rows s (Child c j) w ≡ Some (Slot k) → ⊥
  child-not-slot [] c j k e = cc
  child-not-slot (false ∷ w) c j k e =
      let (next, goes, rest) = and_then-some (λ next. spot_at rows s next w) (spot_below rows s (Child c j)) (Slot k) e in
      let (d, below_is, same) = map-some (λ d. Child d 0) (cell_below rows s (Child c j)) next goes in
      child-not-slot w d 0 k (ap (λ spot. spot_at rows s spot w) same ∙ rest)
  child-not-slot (true ∷ w) c j k e =
      let (next, goes, rest) = and_then-some (λ next. spot_at rows s next w) (spot_after rows s (Child c j)) (Slot k) e in
      let (row, is_row, then) = and_then-some (λ (row : Row). option_map (Child c) (number_after j (length row.children))) (row_of rows s c) next goes in
      let (n, after, same) = map-some (Child c) (number_after j (length row.children)) next then in
      child-not-slot w c n k (ap (λ spot. spot_at rows s spot w) same ∙ rest)

  -- a slot is reached by ones alone
  slot-word : (w : Position) (i k : ℕ) → spot_at rows s (Slot i) w ≡ Some (Slot k) → ones i ++ w ≡ ones k
  slot-word [] i k e = append-nil (ones i) ∙ ap ones (one_slot i k e)
  slot-word (false ∷ w) i k e =
      let (next, goes, rest) = and_then-some (λ next. spot_at rows s next w) (spot_below rows s (Slot i)) (Slot k) e in
      let (d, below_is, same) = map-some (λ d. Child d 0) (cell_below rows s (Slot i)) next goes in
      absurd (child-not-slot w d 0 k (ap (λ spot. spot_at rows s spot w) same ∙ rest))
  slot-word (true ∷ w) i k e =
      let (next, goes, rest) = and_then-some (λ next. spot_at rows s next w) (spot_after rows s (Slot i)) (Slot k) e in
      let (n, after, same) = map-some Slot (number_after i (length rows.slots)) next goes in
      let step : n ≡ suc i = omega (arith, (number-after-some i (length rows.slots) n after).1) in
      ones-more i w ∙ ap (λ m. ones m ++ w) (sym step) ∙ slot-word w n k (ap (λ spot. spot_at rows s spot w) same ∙ rest)

  -- a cell's own spot is reached along data fields
  child-word : (w : Position) (c d : CellId) (i : ℕ) → IsLive s c → spot_at rows s (Child c i) w ≡ Some (Child d 0) →
      (fields : List FieldId) × LeadsAlong types s fields c d × (ones i ++ w ≡ below types [] fields)
  child-word [] c d i live e =
      let (cells, numbers) = one_child c d i 0 e in
      ([], (cells, live), append-nil (ones i) ∙ ap ones numbers)
  child-word (false ∷ w) c d i live e =
      let (next, goes, rest) = and_then-some (λ next. spot_at rows s next w) (spot_below rows s (Child c i)) (Child d 0) e in
      let (b, below_is, same) = map-some (λ b. Child b 0) (cell_below rows s (Child c i)) next goes in
      let (f, leads, number) = child-leads c b i below_is in
      let (fields, along, word) = child-word w b d 0 leads.live (ap (λ spot. spot_at rows s spot w) same ∙ rest) in
      (f ∷ fields, (b, leads, along), ap (λ v. ones i ++ false ∷ v) word ∙ sym (below-first types f fields i number))
  child-word (true ∷ w) c d i live e =
      let (next, goes, rest) = and_then-some (λ next. spot_at rows s next w) (spot_after rows s (Child c i)) (Child d 0) e in
      let (row, is_row, then) = and_then-some (λ (row : Row). option_map (Child c) (number_after i (length row.children))) (row_of rows s c) next goes in
      let (n, after, same) = map-some (Child c) (number_after i (length row.children)) next then in
      let step : n ≡ suc i = omega (arith, (number-after-some i (length row.children) n after).1) in
      let (fields, along, word) = child-word w c d n live (ap (λ spot. spot_at rows s spot w) same ∙ rest) in
      (fields, along, ones-more i w ∙ ap (λ m. ones m ++ w) (sym step) ∙ word)

  slot-path : (w : Position) (d : CellId) (i : ℕ) → spot_at rows s (Slot i) w ≡ Some (Child d 0) →
      (v : VarId) × (fields : List FieldId) × StandsAt types vars s v fields d × (ones i ++ w ≡ path_position types vars v fields)
  slot-path [] d i e = cc
  slot-path (false ∷ w) d i e =
      let (next, goes, rest) = and_then-some (λ next. spot_at rows s next w) (spot_below rows s (Slot i)) (Child d 0) e in
      let (b, below_is, same) = map-some (λ b. Child b 0) (cell_below rows s (Slot i)) next goes in
      let (v, names, live, number) = slot-names i b below_is in
      let (fields, along, word) = child-word w b d 0 live (ap (λ spot. spot_at rows s spot w) same ∙ rest) in (
        v,
        fields,
        record { root = b; named = names; along = along },
        ap (λ u. ones i ++ false ∷ u) word ∙ sym (path-first types vars v fields i number),
      )
  slot-path (true ∷ w) d i e =
      let (next, goes, rest) = and_then-some (λ next. spot_at rows s next w) (spot_after rows s (Slot i)) (Child d 0) e in
      let (n, after, same) = map-some Slot (number_after i (length rows.slots)) next goes in
      let step : n ≡ suc i = omega (arith, (number-after-some i (length rows.slots) n after).1) in
      let (v, fields, stands, word) = slot-path w d n (ap (λ spot. spot_at rows s spot w) same ∙ rest) in
      (v, fields, stands, ones-more i w ∙ ap (λ m. ones m ++ w) (sym step) ∙ word)

  pub cell-placed : (w : Position) (c : CellId) → spot_at rows s (Slot 0) w ≡ Some (Child c 0) → IsPlaced types vars s c w
  cell-placed w c e =
      let (v, fields, stands, word) = slot-path w c 0 e in
      record { var = v; fields = fields; at = stands; position = word }

  pub root-word : (w : Position) → spot_at rows s (Slot 0) w ≡ Some (Slot 0) → w ≡ []
  root-word w e = slot-word w 0 0 e

  -- ---- from paths to spots

  along-children : (row : Row) (c : CellId) → row_of rows s c ≡ Some row → (j i : ℕ) (w : Position) → i + j < length row.children →
      spot_at rows s (Child c i) (ones j ++ false ∷ w) ≡ spot_at rows s (Child c (i + j)) (false ∷ w)
  along-children row c is_row zero i w inside =
      ap (λ n. spot_at rows s (Child c n) (false ∷ w)) (let e : i ≡ i + 0 = omega arith in e)
  along-children row c is_row (suc j) i w inside =
      let after : spot_after rows s (Child c i) ≡ Some (Child c (i + 1)) =
      ap (λ o. option_and_then (λ (r : Row). option_map (Child c) (number_after i (length r.children))) o) is_row
      ∙ ap (λ o. option_map (Child c) o) (number-after-is i (length row.children) (omega (arith, inside))) in
      ap (λ o. option_and_then (λ next. spot_at rows s next (ones j ++ false ∷ w)) o) after
      ∙ along-children row c is_row j (i + 1) w (omega (arith, inside))
      ∙ ap (λ n. spot_at rows s (Child c n) (false ∷ w)) (let e : i + 1 + j ≡ i + suc j = omega arith in e)

  along-slots : (j i : ℕ) (w : Position) → i + j < length rows.slots →
      spot_at rows s (Slot i) (ones j ++ false ∷ w) ≡ spot_at rows s (Slot (i + j)) (false ∷ w)
  along-slots zero i w inside = ap (λ n. spot_at rows s (Slot n) (false ∷ w)) (let e : i ≡ i + 0 = omega arith in e)
  along-slots (suc j) i w inside =
      let after : spot_after rows s (Slot i) ≡ Some (Slot (i + 1)) =
      ap (λ o. option_map Slot o) (number-after-is i (length rows.slots) (omega (arith, inside))) in
      ap (λ o. option_and_then (λ next. spot_at rows s next (ones j ++ false ∷ w)) o) after
      ∙ along-slots j (i + 1) w (omega (arith, inside))
      ∙ ap (λ n. spot_at rows s (Slot n) (false ∷ w)) (let e : i + 1 + j ≡ i + suc j = omega arith in e)

  below-spot : (spot : Spot) (d : CellId) (w : Position) → cell_below rows s spot ≡ Some d → spot_at rows s spot (false ∷ w) ≡ spot_at rows s (Child d 0) w
  below-spot spot d w at = ap (λ o. option_and_then (λ next. spot_at rows s next w) (option_map (λ c. Child c 0) o)) at

  child-reached : (fields : List FieldId) (c d : CellId) → LeadsAlong types s fields c d →
      spot_at rows s (Child c 0) (below types [] fields) ≡ Some (Child d 0)
  child-reached [] c d stays = ap (λ x. Some (Child x 0)) stays.0
  child-reached (f ∷ fields) c d (b, leads, along) =
      let (row, j, is_row, number, inside, at) = leads-child f c b leads in
      let same : 0 + j ≡ j = omega arith in
      ap (λ w. spot_at rows s (Child c 0) w) (below-first types f fields j number)
      ∙ along-children row c is_row j 0 (below types [] fields) (omega (arith, inside))
      ∙ ap (λ n. spot_at rows s (Child c n) (false ∷ below types [] fields)) same
      ∙ below-spot (Child c j) b (below types [] fields) at
      ∙ child-reached fields b d along

  along-live : (fields : List FieldId) (a b : CellId) → LeadsAlong types s fields a b → IsLive s a
  along-live [] a b stays = stays.1
  along-live (f ∷ fields) a b (next, leads, along) =
      let (cell, there, typed) = own_type s a f (value.Cell (Some next)) leads.value in ap (λ o. is_some o) there

  pub placed-spot : (c : CellId) (w : Position) → IsPlaced types vars s c w → spot_at rows s (Slot 0) w ≡ Some (Child c 0)
  placed-spot c w placed =
      let root = placed.at.root in
      let (i, number, inside, at) = names-slot placed.var root placed.at.named (along-live placed.fields root c placed.at.along) in
      let same : 0 + i ≡ i = omega arith in
      ap (λ u. spot_at rows s (Slot 0) u) (placed.position ∙ path-first types vars placed.var placed.fields i number)
      ∙ along-slots i 0 (below types [] placed.fields) (omega (arith, inside))
      ∙ ap (λ n. spot_at rows s (Slot n) (false ∷ below types [] placed.fields)) same
      ∙ below-spot (Slot i) root (below types [] placed.fields) at
      ∙ child-reached placed.fields root c placed.at.along
