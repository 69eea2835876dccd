-- Where the cells of the decoded store stand.
use Rattle.std.proofs.Common.{◌≡◌, ℕ, zero, suc, ◌+◌, ◌<◌, Bool, true, false, cond, IsTrue, inl, inr, List, [], ◌∷◌, ◌++◌, length, slice_get, take, unwrap_or}
use Rattle.std.proofs.Common.{Option, Some, None, IsSomeAnd}
use Rattle.std.proofs.Common.{refl, sym, ap, ◌∙◌, subst, arith, ◌&&◌}
use Rattle.std.specs.Prelude.{count_by, is_some}
use Rattle.std.specs.Option.{option_and_then, option_map_or}
use Rattle.std.proofs.lemmas.Bool.{lt-ltb}
use Rattle.std.proofs.lemmas.List.{length-append}
use Rattle.std.proofs.lemmas.Option.{slice_get_within, same_Some}
use Rattle.gta_theory.specs.Assignments.{Position, Assignment, is_same_position}
use Rattle.ws2s_core.specs.declared.track.Track.{Track}
use Rattle.ws2s_core.proofs.ExamplesLemmas.{same_position-true, same_position-refl}
use Rattle.ws2s_forms.specs.Places.{ones, child_of, slot_of}
use Rattle.store_core.specs.declared.ids.TypeId.{TypeId}
use Rattle.store_core.specs.declared.ids.VariantId.{VariantId}
use Rattle.store_core.specs.declared.ids.FieldId.{FieldId}
use Rattle.store_core.specs.declared.ids.VarId.{VarId}
use Rattle.store_core.specs.declared.ids.CellId.{CellId}
use Rattle.store_core.specs.declared.kind.FieldKind.{FieldKind}
use Rattle.store_core.specs.declared.kind.FieldKind.TheVariants as field
use Rattle.store_core.specs.declared.kind.VarKind.{VarKind}
use Rattle.store_core.specs.declared.kind.VarKind.TheVariants as var
use Rattle.store_core.specs.declared.value.Value.{Value}
use Rattle.store_core.specs.declared.value.Value.TheVariants as value
use Rattle.store_core.specs.Tables.{TypeEntry, FieldEntry, VarEntry, fields_of, field_at, var_at, is_had, has_field}
use Rattle.store_core.specs.Stores.{StoreMap, field_value}
use Rattle.store_core.proofs.FittingLemmas.{IfSome-at, IsSomeAnd-at}
use Rattle.routing_walks.specs.declared.fault.Place.TheVariants as place
use Rattle.routing_walks.specs.Walks.{DataAlone, IsFollowed, Leads}
use Rattle.routing_walks.specs.WellFormed.{IsDataVar, Names}
use Rattle.routing_walks.specs.Paths.{LeadsAlong}
use Rattle.tree_encode.specs.declared.counting.Counted.TheVariants.{Children}
use Rattle.tree_encode.specs.Counting.{counts, is_counted, rank, is_data_var, is_data_kind, variants_in, bools_in}
use Rattle.tree_encode.specs.Tracks.{track_at, var_track, slot_of_var, child_number}
use Rattle.tree_encode.specs.Positions.{below, path_position, IsPlaced}
use Rattle.tree_encode.proofs.PositionsLemmas as positions
use Rattle.tree_encode.proofs.PositionsLemmas.{data_field, data_var, slotted}
use Rattle.tree_encode.proofs.TracksLemmas.{and_then-some}
use Rattle.tree_store.specs.Shapes.{variant_in, IsCellOf, IsCellIn, IsSlotFor, IsChildFor, VarLaysOut, LaysOut}
use Rattle.tree_store.specs.Decoded.{Standing, AreCells, numbered, first_where, is_on, child_at, field_in, var_in, decoded}
use Rattle.tree_store.proofs.WordsLemmas.{EndsInZero, slot-ends, child-ends, slot-not_child, children-apart}
use Rattle.tree_store.proofs.NumbersLemmas.{count-one}
use Rattle.tree_store.proofs.CellsLemmas.{one_place, one_variant, first_found, first_alone}
use Rattle.tree_store.proofs.ValuesLemmas.{cell_here, value_here, here_value, var_here}

-- ---- forms

pub some-entry : {X : Type 0} (P : X → Type 0) (o : Option X) (x : X) → o ≡ Some x → IsSomeAnd o P → P x
some-entry P o x at h = let h' : IsSomeAnd (Some x) P = subst (λ p. IsSomeAnd p P) at h in h'

pub entry-some : {X : Type 0} (P : X → Type 0) (o : Option X) (x : X) → o ≡ Some x → P x → IsSomeAnd o P
entry-some P o x at h = subst (λ p. IsSomeAnd p P) (sym at) h

pub one_reference : (o p : Option CellId) → ◌≡◌ {A = Option Value} (Some (value.Cell o)) (Some (value.Cell p)) → o ≡ p
one_reference o p e = cc

pub one_entry : {X : Type 0} (o : Option X) (x y : X) → o ≡ Some x → o ≡ Some y → x ≡ y
one_entry o x y at also = same_Some x y (sym at ∙ also)

pub followed : (kind : FieldKind) (ty : TypeId) → kind ≡ field.Data ty → IsFollowed DataAlone kind
followed kind ty is = subst (IsFollowed DataAlone) (sym is) tt

data_is : (kind : VarKind) (ty : TypeId) → kind ≡ var.Data ty → IsDataVar kind
data_is kind ty is = subst IsDataVar (sym is) tt

one_type_field : (ty uy : TypeId) → field.Data ty ≡ field.Data uy → ty ≡ uy
one_type_field ty uy e = cc

and_second : (x y : Bool) → (x && y) ≡ true → y ≡ true
and_second true y e = e
and_second false y e = cc

-- data fields of a type with one number are one
pub field_one : (types : List TypeEntry) (f g : FieldId) (one other : FieldEntry) (ty uy : TypeId) (j : ℕ) → field_at types f ≡ Some one → one.kind ≡
    field.Data ty →
    field_at types g ≡ Some other → other.kind ≡ field.Data uy → f.ty ≡ g.ty → child_number types f ≡ Some j → child_number types g ≡ Some j → f ≡ g
field_one types f g one other ty uy j at kind found sort same number also =
    let ranks : rank Children types f ≡ rank Children types g =
    one_entry (Some j) (rank Children types f) (rank Children types g) (sym number ∙ positions.numbered types f one ty at kind)
    (sym also ∙ positions.numbered types g other uy found sort) in
    let indexes : f.index ≡ g.index = count-one (is_counted Children) (fields_of types f.ty) f.index g.index one other at (ap (counts Children) kind)
    (subst (λ t. slice_get (fields_of types t) g.index ≡ Some other) (sym same) found) (ap (counts Children) sort)
    (ranks ∙ ap (λ t. count_by (is_counted Children) (take g.index (fields_of types t))) (sym same)) in
    λ i. record { ty = same i; index = indexes i }

-- data variables with one slot are one
pub var_one : (vars : List VarEntry) (v w : VarId) (one other : VarEntry) (ty uy : TypeId) → var_at vars v ≡ Some one → one.kind ≡ var.Data ty →
    var_at vars w ≡ Some other → other.kind ≡ var.Data uy → unwrap_or (slot_of_var vars v) 0 ≡ unwrap_or (slot_of_var vars w) 0 → v ≡ w
var_one vars v w one other ty uy at kind found sort same =
    let numbers : v.0 ≡ w.0 = count-one is_data_var vars v.0 w.0 one other at (ap is_data_kind kind) found (ap is_data_kind sort)
    (sym (ap (λ o. unwrap_or o 0) (slotted vars v one ty at kind)) ∙ same ∙ ap (λ o. unwrap_or o 0) (slotted vars w other uy found sort)) in
    λ i. record { 0 = numbers i }

pub longer_child : (j : ℕ) (u : Position) → length u < length (child_of j u)
longer_child j u =
    let all = length-append u (ones j ++ false ∷ []) in
    let tail = length-append (ones j) (false ∷ []) in
    omega (arith, all, tail)

-- ---- facts of a place

-- the cell has the number of a standing cell, at this position
pub record PlaceAt (cells : List Standing) (c : CellId) (p : Position) : Type 0 where
  pub place : ℕ
  pub cell : Standing
  pub at : slice_get cells place ≡ Some cell
  pub number : c ≡ numbered (1 + place)
  pub position : cell.at ≡ p

-- a data variable names the cell, which stands in its slot
pub record RootAt (vars : List VarEntry) (cells : List Standing) (v : VarId) (c : CellId) : Type 0 where
  pub place : ℕ
  pub cell : Standing
  pub at : slice_get cells place ≡ Some cell
  pub number : c ≡ numbered (1 + place)
  pub position : cell.at ≡ slot_of (unwrap_or (slot_of_var vars v) 0)
  pub entry : VarEntry
  pub there : var_at vars v ≡ Some entry
  pub ty : TypeId
  pub kind : entry.kind ≡ var.Data ty
  pub type : cell.variant.ty ≡ ty

-- a data field of the one cell names the other, which stands at the child
pub record ChildAt (types : List TypeEntry) (cells : List Standing) (f : FieldId) (c d : CellId) : Type 0 where
  pub place : ℕ
  pub cell : Standing
  pub at : slice_get cells place ≡ Some cell
  pub number : c ≡ numbered (1 + place)
  pub to_place : ℕ
  pub to : Standing
  pub to_at : slice_get cells to_place ≡ Some to
  pub to_number : d ≡ numbered (1 + to_place)
  pub same : f.ty ≡ cell.variant.ty
  pub entry : FieldEntry
  pub there : field_at types f ≡ Some entry
  pub ty : TypeId
  pub kind : entry.kind ≡ field.Data ty
  pub had : is_had cell.variant.index entry ≡ true
  pub along : ℕ
  pub along_is : child_number types f ≡ Some along
  pub position : to.at ≡ child_of along cell.at

module _ (types : List TypeEntry) (vars : List VarEntry) (a : Assignment) (cells : List Standing) (lays : LaysOut types vars a)
    (are : AreCells types a cells) where
  abbrev s : StoreMap
  s = decoded types vars a cells

  pub tracked : (v : VarId) (entry : VarEntry) → var_at vars v ≡ Some entry → (t : Track) × (var_track types vars v ≡ Some t)
  tracked v entry at =
      let t : Track = track_at (variants_in types + (bools_in types + v.0)) in
      (t, ap (λ b. cond b (Some t) None) (lt-ltb v.0 (length vars) (slice_get_within vars v.0 entry at)))

  pub var_lays : (v : VarId) (entry : VarEntry) (t : Track) → var_at vars v ≡ Some entry → var_track types vars v ≡ Some t →
      VarLaysOut types a (unwrap_or (slot_of_var vars v) 0) t.0 entry.kind
  var_lays v entry t at is = IfSome-at (var_track types vars v) _ t is (IfSome-at (var_at vars v) _ entry at (lays.variables v))

  pub in_standing : (i : ℕ) (x : Standing) → slice_get cells i ≡ Some x → IsCellIn types a x.variant.ty x.at
  in_standing i x at = record { index = x.variant.index; here = are.each i x at }

  pub in_type : (i : ℕ) (x : Standing) (ty : TypeId) → slice_get cells i ≡ Some x → IsCellIn types a ty x.at → x.variant.ty ≡ ty
  in_type i x ty at h = ap (λ (v : VariantId). v.ty) (one_variant types a cells are x.variant (variant_in ty h.index) x.at (are.each i x at) h.here)

  pub ends : (i : ℕ) (x : Standing) → slice_get cells i ≡ Some x → EndsInZero x.at
  ends i x at = elim (lays.placed x.variant.ty x.at (in_standing i x at)) [
    | inl slot ↦ subst EndsInZero (sym slot.position) (slot-ends slot.slot)
    | inr child ↦ subst EndsInZero (sym child.position) (child-ends child.child child.parent)
  ]

  -- ---- data variables

  pub root_at : (v : VarId) (c : CellId) → Names types vars s (place.Var v) c → RootAt vars cells v c
  root_at v c h =
      let (entry, there, is_data) = IsSomeAnd-at (var_at vars v) (λ e. IsDataVar e.kind) h.place in
      let (ty, kind) = data_var entry.kind is_data in
      let (t, is) = tracked v entry there in
      let held : Some (value.Cell (first_where (is_on a (Some t)) 1 cells)) ≡ Some (value.Cell (Some c)) =
      ap (λ o. Some (value.Cell (first_where (is_on a o) 1 cells))) (sym is)
      ∙ ap (λ k. Some (var_in a cells (var_track types vars v) k)) (sym kind) ∙ sym (var_here types vars a cells v entry there) ∙ h.value in
      let found = first_found (is_on a (Some t)) 1 cells c (one_reference _ (Some c) held) in
      let laid : VarLaysOut types a (unwrap_or (slot_of_var vars v) 0) t.0 (var.Data ty) = subst
      (VarLaysOut types a (unwrap_or (slot_of_var vars v) 0) t.0) kind (var_lays v entry t there is) in
      let both = (laid found.cell.at).0 found.is in
      record {
        place = found.place;
        cell = found.cell;
        at = found.at;
        number = ap (λ (n : ℕ). record { 0 = n }) found.number;
        position = both.0;
        entry = entry;
        there = there;
        ty = ty;
        kind = kind;
        type = in_type found.place found.cell ty found.at both.1;
      }

  pub root_here : (v : VarId) (entry : VarEntry) (ty : TypeId) (i : ℕ) (x : Standing) → var_at vars v ≡ Some entry → entry.kind ≡ var.Data ty →
      slice_get cells i ≡ Some x → x.at ≡ slot_of (unwrap_or (slot_of_var vars v) 0) → IsCellIn types a ty x.at →
      Names types vars s (place.Var v) (numbered (1 + i))
  root_here v entry ty i x there kind at position typed =
      let (t, is) = tracked v entry there in
      let laid : VarLaysOut types a (unwrap_or (slot_of_var vars v) 0) t.0 (var.Data ty) = subst
      (VarLaysOut types a (unwrap_or (slot_of_var vars v) 0) t.0) kind (var_lays v entry t there is) in
      let first = first_alone (is_on a (Some t)) 1 cells i x at ((laid x.at).1 (position, typed))
      (λ j y at_y on. one_place types a cells are j i y x at_y at (((laid y.at).0 on).0 ∙ sym position)) in
      record {
        place = entry-some (λ (e : VarEntry). IsDataVar e.kind) (var_at vars v) entry there (data_is entry.kind ty kind);
        value = var_here types vars a cells v entry there
            ∙ ap (λ k. Some (var_in a cells (var_track types vars v) k)) kind
            ∙ ap (λ o. Some (value.Cell (first_where (is_on a o) 1 cells))) is
            ∙ ap (λ o. Some (value.Cell o)) first;
      }

  -- ---- data fields

  pub child_named : (f : FieldId) (c d : CellId) → IsSomeAnd (field_at types f) (λ entry. IsFollowed DataAlone entry.kind) →
      field_value s c f ≡ Some (value.Cell (Some d)) → ChildAt types cells f c d
  child_named f c d is_data holds =
      let held = here_value types vars a cells c f (value.Cell (Some d)) holds in
      let (ty, kind) = data_field held.entry.kind
      (some-entry (λ (e : FieldEntry). IsFollowed DataAlone e.kind) (field_at types f) held.entry held.there is_data) in
      let reference : option_and_then (child_at cells held.cell.at) (child_number types f) ≡ Some d =
      one_reference _ (Some d) (ap Some (ap (λ k. field_in types a cells held.cell.at f k) (sym kind) ∙ sym held.is)) in
      let (j, along_is, named) = and_then-some (child_at cells held.cell.at) (child_number types f) d reference in
      let found = first_found (is_same_position (child_of j held.cell.at)) 1 cells d named in
      record {
        place = held.place;
        cell = held.cell;
        at = held.at;
        number = held.number;
        to_place = found.place;
        to = found.cell;
        to_at = found.at;
        to_number = ap (λ (n : ℕ). record { 0 = n }) found.number;
        same = held.same;
        entry = held.entry;
        there = held.there;
        ty = ty;
        kind = kind;
        had = held.had;
        along = j;
        along_is = along_is;
        position = sym (same_position-true (child_of j held.cell.at) found.cell.at found.is);
      }

  pub child_here : (f : FieldId) (entry : FieldEntry) (ty : TypeId) (i k j : ℕ) (x y : Standing) → slice_get cells i ≡ Some x → slice_get cells k ≡ Some y →
      f.ty ≡ x.variant.ty → field_at types f ≡ Some entry → entry.kind ≡ field.Data ty → is_had x.variant.index entry ≡ true →
      child_number types f ≡ Some j → y.at ≡ child_of j x.at → Leads types s DataAlone f (numbered (1 + i)) (numbered (1 + k))
  child_here f entry ty i k j x y at at_y same there kind had along_is position =
      let test = is_same_position (child_of j x.at) in
      let first : first_where test 1 cells ≡ Some (numbered (1 + k)) = first_alone test 1 cells k y at_y
      (subst (λ p. is_same_position (child_of j x.at) p ≡ true) (sym position) (same_position-refl (child_of j x.at)))
      (λ m z at_z passes. one_place types a cells are m k z y at_z at_y (sym (same_position-true (child_of j x.at) z.at passes) ∙ sym position)) in
      record {
        kind = entry-some (λ (e : FieldEntry). IsFollowed DataAlone e.kind) (field_at types f) entry there (followed entry.kind ty kind);
        value = value_here types vars a cells i x f entry at same there had
            ∙ ap (λ kd. Some (field_in types a cells x.at f kd)) kind
            ∙ ap (λ o. Some (value.Cell (option_and_then (child_at cells x.at) o))) along_is
            ∙ ap (λ o. Some (value.Cell o)) first;
        live = ap is_some (cell_here types vars a cells k y at_y);
      }

  -- the child's type is that of the field
  pub child_type : (f : FieldId) (c d : CellId) (h : ChildAt types cells f c d) → h.to.variant.ty ≡ h.ty
  child_type f c d h = elim (lays.placed h.to.variant.ty h.to.at (in_standing h.to_place h.to h.to_at)) [
    | inl slot ↦ absurd (slot-not_child slot.slot h.along h.cell.at (ends h.place h.cell h.at) (sym slot.position ∙ h.position))
    | inr child ↦ by child
  ]
    where
      by : IsChildFor types a h.to.variant.ty h.to.at → h.to.variant.ty ≡ h.ty
      by child =
          let parent = are.all (variant_in child.along.ty child.has.index) child.parent child.has.here in
          let (number, position) = children-apart h.along child.child h.cell.at child.parent (ends h.place h.cell h.at) (ends parent.0 _ parent.1)
          (sym h.position ∙ child.position) in
          let variants : h.cell.variant ≡ variant_in child.along.ty child.has.index =
          one_variant types a cells are h.cell.variant (variant_in child.along.ty child.has.index) h.cell.at (are.each h.place h.cell h.at)
          (subst (IsCellOf types a (variant_in child.along.ty child.has.index)) (sym position) child.has.here) in
          let (entry, there, kind) = IsSomeAnd-at (field_at types child.along) (λ e. e.kind ≡ field.Data h.to.variant.ty) child.kind in
          let fields : f ≡ child.along = field_one types f child.along h.entry entry h.ty h.to.variant.ty h.along h.there h.kind there kind
          (h.same ∙ ap (λ (v : VariantId). v.ty) variants) h.along_is (child.number ∙ ap Some (sym number)) in
          let entries : h.entry ≡ entry = one_entry (field_at types f) h.entry entry h.there (ap (field_at types) fields ∙ there) in
          one_type_field h.to.variant.ty h.ty (sym kind ∙ ap (λ (e : FieldEntry). e.kind) (sym entries) ∙ h.kind)

  -- ---- paths

  pub one_standing : (i k : ℕ) (x y : Standing) → slice_get cells i ≡ Some x → slice_get cells k ≡ Some y → numbered (1 + i) ≡ numbered (1 + k) → x ≡ y
  one_standing i k x y at also same =
      let numbers : 1 + i ≡ 1 + k = ap (λ (c : CellId). c.0) same in
      let places : i ≡ k = omega arith in
      one_entry (slice_get cells k) x y (ap (λ n. slice_get cells n) (sym places) ∙ at) also

  along_place : (fields : List FieldId) (c d : CellId) (i : ℕ) (x : Standing) → slice_get cells i ≡ Some x → c ≡ numbered (1 + i) → LeadsAlong types s
      fields c d →
      PlaceAt cells d (below types x.at fields)
  along_place [] c d i x at number h = record { place = i; cell = x; at = at; number = sym h.0 ∙ number; position = refl }
  along_place (f ∷ fields) c d i x at number h =
      let child = child_named f c h.0 h.1.kind h.1.value in
      let same : child.cell ≡ x = one_standing child.place i child.cell x child.at at (sym child.number ∙ number) in
      let rest = along_place fields h.0 d child.to_place child.to child.to_at child.to_number h.2 in
      record {
        place = rest.place;
        cell = rest.cell;
        at = rest.at;
        number = rest.number;
        position = rest.position ∙ ap (λ p. below types p fields) (child.position ∙ ap (λ (y : Standing). child_of child.along y.at) same
            ∙ ap (λ o. child_of (unwrap_or o 0) x.at) (sym child.along_is));
      }

  -- a cell that is placed stands there
  pub placed_at : (c : CellId) (p : Position) → IsPlaced types vars s c p → PlaceAt cells c p
  placed_at c p h =
      let root = root_at h.var h.at.root h.at.named in
      let end = along_place h.fields h.at.root c root.place root.cell root.at root.number h.at.along in
      record {
        place = end.place;
        cell = end.cell;
        at = end.at;
        number = end.number;
        position = end.position ∙ ap (λ u. below types u h.fields) root.position ∙ sym h.position;
      }

  along_step : (fields : List FieldId) (f : FieldId) (c d e : CellId) → LeadsAlong types s fields c d → Leads types s DataAlone f d e → LeadsAlong types s
      (fields ++ f ∷ []) c e
  along_step [] f c d e h leads = (e, subst (λ b. Leads types s DataAlone f b e) (sym h.0) leads, (refl, leads.live))
  along_step (g ∷ fields) f c d e h leads = (h.0, h.1, along_step fields f h.0 d e h.2 leads)

  below_step : (fields : List FieldId) (f : FieldId) (u : Position) → below types u (fields ++ f ∷ []) ≡ child_of (unwrap_or (child_number types f) 0)
      (below types u fields)
  below_step [] f u = refl
  below_step (g ∷ fields) f u = below_step fields f (child_of (unwrap_or (child_number types g) 0) u)

  pub had_entry : (index : ℕ) (f : FieldId) → IsTrue (has_field types (variant_in f.ty index) f) → (entry : FieldEntry) → field_at types f ≡ Some entry →
      is_had index entry ≡ true
  had_entry index f has entry there =
      let last = and_second _ _ (and_second _ _ has) in
      subst (λ o. option_map_or (is_had index) o false ≡ true) there last

  -- a cell that stands somewhere is placed there
  at_placed : (n : ℕ) (i : ℕ) (x : Standing) → slice_get cells i ≡ Some x → length x.at < n → IsPlaced types vars s (numbered (1 + i)) x.at
  at_placed zero i x at short = absurd (omega arith)
  at_placed (suc n) i x at short = elim (lays.placed x.variant.ty x.at (in_standing i x at)) [
    | inl slot ↦ in_slot slot
    | inr child ↦ at_child child (λ k y at_y less. at_placed n k y at_y (omega arith))
  ]
    where
      in_slot : IsSlotFor vars x.variant.ty x.at → IsPlaced types vars s (numbered (1 + i)) x.at
      in_slot slot =
          let (entry, there, kind) = IsSomeAnd-at (var_at vars slot.variable) (λ e. e.kind ≡ var.Data x.variant.ty) slot.kind in
          let position : x.at ≡ slot_of (unwrap_or (slot_of_var vars slot.variable) 0) = slot.position ∙ ap (λ o. slot_of (unwrap_or o 0)) (sym slot.number) in
          record {
            var = slot.variable;
            fields = [];
            at = record {
              root = numbered (1 + i);
              named = root_here slot.variable entry x.variant.ty i x there kind at position (in_standing i x at);
              along = (refl, ap is_some (cell_here types vars a cells i x at));
            };
            position = position;
          }

      at_child : IsChildFor types a x.variant.ty x.at → ((k : ℕ) (y : Standing) → slice_get cells k ≡ Some y → length y.at < length x.at →
          IsPlaced types vars s (numbered (1 + k)) y.at) → IsPlaced types vars s (numbered (1 + i)) x.at
      at_child child earlier =
          let parent = are.all (variant_in child.along.ty child.has.index) child.parent child.has.here in
          let (entry, there, kind) = IsSomeAnd-at (field_at types child.along) (λ e. e.kind ≡ field.Data x.variant.ty) child.kind in
          let above = earlier parent.0 (record { variant = variant_in child.along.ty child.has.index; at = child.parent }) parent.1
          (subst (λ p. length child.parent < length p) (sym child.position) (longer_child child.child child.parent)) in
          let leads = child_here child.along entry x.variant.ty parent.0 i child.child
          (record { variant = variant_in child.along.ty child.has.index; at = child.parent })
          x parent.1 at refl there kind (had_entry child.has.index child.along child.has.has entry there) child.number child.position in
          record {
            var = above.var;
            fields = above.fields ++ child.along ∷ [];
            at = record {
              root = above.at.root;
              named = above.at.named;
              along = along_step above.fields child.along above.at.root (numbered (1 + parent.0)) (numbered (1 + i)) above.at.along leads;
            };
            position = child.position ∙ ap (child_of child.child) above.position
                ∙ ap (λ o. child_of (unwrap_or o 0) (path_position types vars above.var above.fields)) (sym child.number)
                ∙ sym (below_step above.fields child.along (slot_of (unwrap_or (slot_of_var vars above.var) 0)));
          }

  pub standing_placed : (i : ℕ) (x : Standing) → slice_get cells i ≡ Some x → IsPlaced types vars s (numbered (1 + i)) x.at
  standing_placed i x at = at_placed (suc (length x.at)) i x at (omega arith)
