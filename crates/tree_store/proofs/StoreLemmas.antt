-- The decoded store fits its tables, is a backbone, and is numbered in preorder.
use Rattle.std.proofs.Common.{◌≡◌, ℕ, zero, suc, ◌+◌, ◌-◌, ◌<◌, Bool, true, false, cond, inl, inr, List, [], ◌∷◌, length, slice_get, Option, Some, None, IsSome}
use Rattle.std.proofs.Common.{IsSomeAnd, IfSome}
use Rattle.std.proofs.Common.{refl, sym, ap, ◌∙◌, subst, arith, Contains}
use Rattle.std.specs.Prelude.{is_some, unwrap_or, All}
use Rattle.std.specs.Option.{option_and_then}
use Rattle.std.specs.List.{AllByRecursion}
use Rattle.std.proofs.lemmas.Bool.{cases_order, ltb-true}
use Rattle.std.proofs.lemmas.Option.{slice_get_within}
use Rattle.std.proofs.lemmas.List.Elements.{All-contains_itself}
use Rattle.gta_theory.specs.Assignments.{Assignment}
use Rattle.ws2s_core.specs.declared.track.Track.{Track}
use Rattle.store_core.specs.declared.ids.TypeId.{TypeId}
use Rattle.store_core.specs.declared.ids.FieldId.{FieldId}
use Rattle.store_core.specs.declared.ids.VarId.{VarId}
use Rattle.store_core.specs.declared.ids.CellId.{CellId}
use Rattle.store_core.specs.declared.kind.FieldKind.{FieldKind}
use Rattle.store_core.specs.declared.kind.FieldKind.TheVariants as field
use Rattle.store_core.specs.declared.kind.VarKind.{VarKind}
use Rattle.store_core.specs.declared.kind.VarKind.TheVariants as var
use Rattle.store_core.specs.declared.value.Value.{Value}
use Rattle.store_core.specs.declared.value.Value.TheVariants as value
use Rattle.store_core.specs.Tables.{TypeEntry, FieldEntry, VarEntry, fields_of, field_at, var_at, is_had, variant_count, KnowsVariant}
use Rattle.store_core.specs.Stores.{StoreMap, CellEntry, IsLive, IsAbove, IsFresh, Fits, CellFits, SlotsFit, SlotFits, FieldFits, VarFits, VarsFit, NamesType}
use Rattle.store_core.specs.Stores.{NamesLiveAlone}
use Rattle.store_core.specs.Stores.{cell_of, field_value, var_value}
use Rattle.store_core.proofs.AboveLemmas.{IsAbove-from}
use Rattle.store_core.proofs.FittingLemmas.{IfSome-from, IsSomeAnd-at}
use Rattle.store_core.proofs.FreshLemmas.{IsFresh-no_dead, AllByRecursion-from}
use Rattle.routing_walks.specs.declared.fault.Place.{Place}
use Rattle.routing_walks.specs.declared.fault.Place.TheVariants as place
use Rattle.routing_walks.specs.Walks.{DataAlone, IsFollowed, IsOfType}
use Rattle.routing_walks.specs.WellFormed.{Names, HoldsOfType, VarHoldsLive, FieldHoldsLive, SetHoldsLive, IsInTree, IsBackbone}
use Rattle.routing_walks.proofs.GatheringLemmas.{Contains-at}
use Rattle.routing_walks.proofs.PathLemmas.{HasPath-IsInTree}
use Rattle.tree_encode.specs.Tracks.{variant_track, var_track, slot_of_var, child_number}
use Rattle.tree_encode.proofs.TracksLemmas.{cond-some}
use Rattle.tree_store.specs.Shapes.{HasCellsIn, VarLaysOut, LaysOut}
use Rattle.tree_store.specs.Preorder.{ComesBefore}
use Rattle.tree_store.specs.Decoded.{Standing, AreCells, numbered, first_where, all_where, is_on, child_at, field_in, slots_in, cell_in, var_in, vars_in}
use Rattle.tree_store.specs.Decoded.{decoded}
use Rattle.tree_store.specs.Stores.{AreNumberedFromOne, AreInPreorder, IsStoreOf}
use Rattle.tree_store.specs.Premises.{SetsHoldLive}
use Rattle.tree_store.proofs.WordsLemmas.{slots-apart, slot-not_child, children-apart}
use Rattle.tree_store.proofs.CellsLemmas.{ComesBefore-not_itself, ComesBefore-one_way, one_place, IsFoundAt, first_found, all_found, all_rising}
use Rattle.tree_store.proofs.ValuesLemmas.{HeldAt, own_field, cell_here, here_cell, value_here, here_value, var_here, here_var}
use Rattle.tree_store.proofs.DecodedLemmas.{entry-some, one_entry, followed, var_one, field_one, tracked, var_lays, in_type, ends}
use Rattle.tree_store.proofs.AssignmentLemmas.{IsAssignmentOf-decoded}
use Rattle.tree_store.proofs.DecodedLemmas.{one_standing, root_at, child_named, child_type, placed_at, standing_placed}

-- ---- references

of_type : (o : Option CellEntry) (ty : TypeId) → IsSomeAnd o (λ cell. cell.variant.ty ≡ ty) → IfSome o (λ cell. cell.variant.ty ≡ ty)
of_type None ty h = tt
of_type (Some cell) ty h = h

is_there : (o : Option CellEntry) (ty : TypeId) → IsSomeAnd o (λ cell. cell.variant.ty ≡ ty) → IsSome o
is_there None ty h = absurd h
is_there (Some cell) ty h = refl

some_cell : (o : Option CellEntry) → IsSome o → (cell : CellEntry) × (o ≡ Some cell)
some_cell None h = absurd (cc)
some_cell (Some cell) h = (cell, refl)

-- null, or a cell of the type
module _ (s : StoreMap) (ty : TypeId) (o : Option CellId) (each : (c : CellId) → o ≡ Some c → IsOfType s ty c) where
  holds_from : HoldsOfType s ty (value.Cell o)
  holds_from = IfSome-from o (IsOfType s ty) each

  names_from : IfSome o (NamesType s ty)
  names_from = IfSome-from o (NamesType s ty) (λ c e. of_type (cell_of s c) ty (each c e))

  live_from : IfSome o (IsLive s)
  live_from = IfSome-from o (IsLive s) (λ c e. is_there (cell_of s c) ty (each c e))

-- a set of cells of the type
module _ (s : StoreMap) (ty : TypeId) (members : List CellId) (each : (c : CellId) → Contains members c → IsOfType s ty c) where
  all_of : All (IsOfType s ty) members
  all_of = λ k d less. each _ (All-contains_itself members k d less)

  all_named : AllByRecursion (NamesType s ty) members
  all_named = AllByRecursion-from (NamesType s ty) members (λ i c at. of_type (cell_of s c) ty (each c (Contains-at members i c at)))

  all_live : AllByRecursion (IsLive s) members
  all_live = AllByRecursion-from (IsLive s) members (λ i c at. is_there (cell_of s c) ty (each c (Contains-at members i c at)))

-- what is asked of the value of a variable, and of a field
record GoodVar (s : StoreMap) (kind : VarKind) (y : Value) : Type 0 where
  holds : VarHoldsLive s kind y
  sets : SetHoldsLive s kind y
  fits : VarFits s kind y
  live : NamesLiveAlone s y

record GoodField (s : StoreMap) (kind : FieldKind) (y : Value) : Type 0 where
  holds : FieldHoldsLive s kind y
  fits : FieldFits s kind y
  live : NamesLiveAlone s y

module _ (types : List TypeEntry) (vars : List VarEntry) (a : Assignment) (cells : List Standing) (lays : LaysOut types vars a)
    (are : AreCells types a cells) where
  abbrev s : StoreMap
  s = decoded types vars a cells

  type_here : (i : ℕ) (x : Standing) (ty : TypeId) (c : CellId) → slice_get cells i ≡ Some x → c ≡ numbered (1 + i) → x.variant.ty ≡ ty → IsOfType s ty c
  type_here i x ty c at number same =
      entry-some (λ (e : CellEntry). e.variant.ty ≡ ty) (cell_of s c) (cell_in types a cells x)
      (ap (cell_of s) number ∙ cell_here types vars a cells i x at) same

  -- ---- variables

  found_type : (track : Option Track) (t : Track) (ty : TypeId) → track ≡ Some t → HasCellsIn types a ty t.0 → (c : CellId) → IsFoundAt (is_on a track) 1
      cells c →
      IsOfType s ty c
  found_type track t ty is has c found =
      type_here found.place found.cell ty c found.at (ap (λ (n : ℕ). record { 0 = n }) found.number)
      (in_type types vars a cells lays are found.place found.cell ty found.at
      (has found.cell.at (subst (λ o. is_on a o found.cell.at ≡ true) is found.is)))

  var_of : (track : Option Track) (t : Track) → track ≡ Some t → (slot : ℕ) (kind : VarKind) → VarLaysOut types a slot t.0 kind → GoodVar s kind
      (var_in a cells track kind)
  var_of track t is slot var.Bool laid = record { holds = tt; sets = tt; fits = tt; live = tt }
  var_of track t is slot var.LogicBool laid = record { holds = tt; sets = tt; fits = tt; live = tt }
  var_of track t is slot (var.Data ty) laid =
      let o = first_where (is_on a track) 1 cells in
      let each = λ (c : CellId) (e : o ≡ Some c). found_type track t ty is (λ p on. ((laid p).0 on).1) c (first_found (is_on a track) 1 cells c e) in
      record { holds = holds_from s ty o each; sets = tt; fits = names_from s ty o each; live = live_from s ty o each }
  var_of track t is slot (var.Pointer ty) laid =
      let o = first_where (is_on a track) 1 cells in
      let each = λ (c : CellId) (e : o ≡ Some c). found_type track t ty is laid.0 c (first_found (is_on a track) 1 cells c e) in
      record { holds = holds_from s ty o each; sets = tt; fits = names_from s ty o each; live = live_from s ty o each }
  var_of track t is slot (var.LogicSet ty) laid =
      let members = all_where (is_on a track) 1 cells in
      let each = λ (c : CellId) (m : Contains members c). found_type track t ty is laid c (all_found (is_on a track) 1 cells c m) in
      record {
        holds = tt;
        sets = all_of s ty members each;
        fits = (all_rising (is_on a track) 1 cells, all_named s ty members each);
        live = all_live s ty members each;
      }

  good_var : (v : VarId) (entry : VarEntry) → var_at vars v ≡ Some entry → GoodVar s entry.kind (var_in a cells (var_track types vars v) entry.kind)
  good_var v entry there =
      let (t, is) = tracked types vars a cells lays are v entry there in
      var_of (var_track types vars v) t is (unwrap_or (slot_of_var vars v) 0) entry.kind (var_lays types vars a cells lays are v entry t there is)

  -- ---- fields

  field_of_kind : (i : ℕ) (x : Standing) (f : FieldId) (entry : FieldEntry) → slice_get cells i ≡ Some x → f.ty ≡ x.variant.ty → field_at types f ≡ Some entry →
      is_had x.variant.index entry ≡ true → (kind : FieldKind) → entry.kind ≡ kind → GoodField s kind (field_in types a cells x.at f kind)
  field_of_kind i x f entry at same there had field.Bool is = record { holds = tt; fits = tt; live = tt }
  field_of_kind i x f entry at same there had (field.Pointer ty along) is = record { holds = tt; fits = tt; live = tt }
  field_of_kind i x f entry at same there had (field.Data ty) is =
      let o = option_and_then (child_at cells x.at) (child_number types f) in
      record { holds = holds_from s ty o each; fits = names_from s ty o each; live = live_from s ty o each }
    where
      each : (d : CellId) → option_and_then (child_at cells x.at) (child_number types f) ≡ Some d → IsOfType s ty d
      each d e =
          let held : field_value s (numbered (1 + i)) f ≡ Some (value.Cell (Some d)) =
          value_here types vars a cells i x f entry at same there had ∙ ap (λ k. Some (field_in types a cells x.at f k)) is ∙ ap (λ p. Some (value.Cell p)) e in
          let h = child_named types vars a cells lays are f (numbered (1 + i)) d
          (entry-some (λ (k : FieldEntry). IsFollowed DataAlone k.kind) (field_at types f) entry there (followed entry.kind ty is)) held in
          let entries : h.entry ≡ entry = one_entry (field_at types f) h.entry entry h.there there in
          let kinds : field.Data h.ty ≡ field.Data ty = sym h.kind ∙ ap (λ (k : FieldEntry). k.kind) entries ∙ is in
          type_here h.to_place h.to ty d h.to_at h.to_number (child_type types vars a cells lays are f (numbered (1 + i)) d h ∙ target h.ty ty kinds)
        where
          target : (t u : TypeId) → field.Data t ≡ field.Data u → t ≡ u
          target t u k = cc

  good_field : (c : CellId) (f : FieldId) (y : Value) (h : HeldAt types a cells c f y) → GoodField s h.entry.kind y
  good_field c f y h = subst (GoodField s h.entry.kind) (sym h.is) (field_of_kind h.place h.cell f h.entry h.at h.same h.there h.had h.entry.kind refl)

  -- ---- fitting

  later_one : (n k : ℕ) → n + suc k ≡ suc n + k
  later_one n k = omega arith

  slots_fit : (i : ℕ) (x : Standing) → slice_get cells i ≡ Some x → (n : ℕ) (fs : List FieldEntry) →
      ((k : ℕ) (entry : FieldEntry) → slice_get fs k ≡ Some entry → field_at types (own_field x (n + k)) ≡ Some entry) →
      SlotsFit s x.variant.index fs (slots_in types a cells x n fs)
  slots_fit i x at n [] sub = tt
  slots_fit i x at n (f ∷ fs) sub = (
    one (is_had x.variant.index f) refl,
    slots_fit i x at (suc n) fs (λ k entry there. subst (λ m. field_at types (own_field x m) ≡ Some entry) (later_one n k) (sub (suc k) entry there)),
  )
    where
      here : field_at types (own_field x n) ≡ Some f
      here = let number : n + 0 ≡ n = omega arith in subst (λ m. field_at types (own_field x m) ≡ Some f) number (sub 0 f refl)

      one : (b : Bool) → is_had x.variant.index f ≡ b → SlotFits s x.variant.index f (cond b (Some (field_in types a cells x.at (own_field x n) f.kind)) None)
      one true had = (had, (field_of_kind i x (own_field x n) f at refl here had f.kind refl).fits)
      one false had = had

  vars_fit : (n : ℕ) (from : List VarEntry) → ((k : ℕ) (entry : VarEntry) → slice_get from k ≡ Some entry → slice_get vars (n + k) ≡ Some entry) →
      VarsFit s from (vars_in types vars a cells n from)
  vars_fit n [] sub = tt
  vars_fit n (v ∷ from) sub = (
    (good_var (record { 0 = n }) v (let number : n + 0 ≡ n = omega arith in subst (λ m. slice_get vars m ≡ Some v) number (sub 0 v refl))).fits,
    vars_fit (suc n) from (λ k entry there. subst (λ m. slice_get vars m ≡ Some entry) (later_one n k) (sub (suc k) entry there)),
  )

  known : (i : ℕ) (x : Standing) → slice_get cells i ≡ Some x → KnowsVariant types x.variant
  known i x at =
      let (t, is, on) = IsSomeAnd-at (variant_track types x.variant) _ (are.each i x at) in
      ltb-true x.variant.index (variant_count types x.variant.ty) (cond-some _ _ t is).0

  above : IsAbove s
  above = IsAbove-from s (λ c live.
      let (cell, is) = some_cell (cell_of s c) live in
      let h = here_cell types vars a cells c cell is in
      let inside = slice_get_within cells h.place h.cell h.at in
      let number : c.0 ≡ 1 + h.place = ap (λ (d : CellId). d.0) h.number in
      omega arith)

  pub Fits-decoded : Fits types vars s
  Fits-decoded = record {
    cells = λ c. IfSome-from (cell_of s c) _ (λ cell is.
        let h = here_cell types vars a cells c cell is in
        subst (CellFits types s) (sym h.is) (record {
          variant = known h.place h.cell h.at;
          values = slots_fit h.place h.cell h.at 0 (fields_of types h.cell.variant.ty)
              (λ k entry there. let number : k ≡ 0 + k = omega arith in
              subst (λ m. field_at types (own_field h.cell m) ≡ Some entry) number there);
        }));
    values = vars_fit 0 vars (λ k entry there. let number : k ≡ 0 + k = omega arith in subst (λ m. slice_get vars m ≡ Some entry) number there);
    above = above;
  }

  pub IsFresh-decoded : IsFresh s
  IsFresh-decoded = IsFresh-no_dead s above (record {
    fields = λ c f. IfSome-from (field_value s c f) _ (λ y held. (good_field c f y (here_value types vars a cells c f y held)).live);
    vars = λ v. IfSome-from (var_value s v) _ (λ y held.
        let h = here_var types vars a cells v y held in subst (NamesLiveAlone s) (sym h.is) (good_var v h.entry h.there).live);
  })

  pub sets-decoded : SetsHoldLive vars s
  sets-decoded v = IfSome-from (var_at vars v) _ (λ entry there. IfSome-from (var_value s v) _ (λ y held.
      subst (SetHoldsLive s entry.kind) (one_entry (var_value s v) _ y (var_here types vars a cells v entry there) held) (good_var v entry there).sets))

  -- ---- the backbone

  named_once : (c : CellId) (p q : Place) → Names types vars s p c → Names types vars s q c → p ≡ q
  named_once c (place.Var v) (place.Var w) by_p by_q =
      let one = root_at types vars a cells lays are v c by_p in
      let other = root_at types vars a cells lays are w c by_q in
      let same = one_standing types vars a cells lays are one.place other.place one.cell other.cell one.at other.at (sym one.number ∙ other.number) in
      ap place.Var (var_one vars v w one.entry other.entry one.ty other.ty one.there one.kind other.there other.kind
      (slots-apart _ _ (sym one.position ∙ ap (λ (x : Standing). x.at) same ∙ other.position)))
  named_once c (place.Var v) (place.Field b g) by_p by_q =
      let one = root_at types vars a cells lays are v c by_p in
      let other = child_named types vars a cells lays are g b c by_q.place by_q.value in
      let same = one_standing types vars a cells lays are one.place other.to_place one.cell other.to one.at other.to_at (sym one.number ∙ other.to_number) in
      absurd (slot-not_child _ other.along other.cell.at (ends types vars a cells lays are other.place other.cell other.at)
      (sym one.position ∙ ap (λ (x : Standing). x.at) same ∙ other.position))
  named_once c (place.Field b g) (place.Var v) by_q by_p =
      let one = root_at types vars a cells lays are v c by_p in
      let other = child_named types vars a cells lays are g b c by_q.place by_q.value in
      let same = one_standing types vars a cells lays are one.place other.to_place one.cell other.to one.at other.to_at (sym one.number ∙ other.to_number) in
      absurd (slot-not_child _ other.along other.cell.at (ends types vars a cells lays are other.place other.cell other.at)
      (sym one.position ∙ ap (λ (x : Standing). x.at) same ∙ other.position))
  named_once c (place.Field b f) (place.Field d g) by_p by_q =
      let one = child_named types vars a cells lays are f b c by_p.place by_p.value in
      let other = child_named types vars a cells lays are g d c by_q.place by_q.value in
      let same = one_standing types vars a cells lays are one.to_place other.to_place one.to other.to one.to_at other.to_at
      (sym one.to_number ∙ other.to_number) in
      let (number, position) = children-apart one.along other.along one.cell.at other.cell.at (ends types vars a cells lays are one.place one.cell one.at)
      (ends types vars a cells lays are other.place other.cell other.at) (sym one.position ∙ ap (λ (x : Standing). x.at) same ∙ other.position) in
      let places : one.place ≡ other.place = one_place types a cells are one.place other.place one.cell other.cell one.at other.at position in
      let standing : one.cell ≡ other.cell = one_entry (slice_get cells other.place) one.cell other.cell
      (ap (λ n. slice_get cells n) (sym places) ∙ one.at) other.at in
      let parents : b ≡ d = one.number ∙ ap (λ n. numbered (1 + n)) places ∙ sym other.number in
      let fields : f ≡ g = field_one types f g one.entry other.entry one.ty other.ty one.along one.there one.kind other.there other.kind
      (one.same ∙ ap (λ (x : Standing). x.variant.ty) standing ∙ sym other.same) one.along_is (other.along_is ∙ ap Some (sym number)) in
      λ i. place.Field (parents i) (fields i)

  pub IsBackbone-decoded : IsBackbone types vars s
  IsBackbone-decoded = record {
    cell_vars = λ v. IfSome-from (var_at vars v) _ (λ entry there. IfSome-from (var_value s v) _ (λ y held.
        subst (VarHoldsLive s entry.kind) (one_entry (var_value s v) _ y (var_here types vars a cells v entry there) held) (good_var v entry there).holds));
    data_fields = λ c f. IfSome-from (field_at types f) _ (λ entry there. IfSome-from (field_value s c f) _ (λ y held.
        let h = here_value types vars a cells c f y held in
        subst (λ (e : FieldEntry). FieldHoldsLive s e.kind y) (one_entry (field_at types f) h.entry entry h.there there) (good_field c f y h).holds));
    named_once = λ c p q live by_p by_q. named_once c p q by_p by_q;
    reached = λ c live.
        let (cell, is) = some_cell (cell_of s c) live in
        let h = here_cell types vars a cells c cell is in
        let placed = standing_placed types vars a cells lays are h.place h.cell h.at in (
          placed.var,
          subst (IsInTree types vars s placed.var) (sym h.number)
              (HasPath-IsInTree types vars s placed.var (numbered (1 + h.place)) (record { fields = placed.fields; at = placed.at })),
        );
  }

  -- ---- numbers

  pub AreNumbered-decoded : AreNumberedFromOne s
  AreNumbered-decoded c = (
    λ live.
        let (cell, is) = some_cell (cell_of s c) live in
        let h = here_cell types vars a cells c cell is in
        let inside = slice_get_within cells h.place h.cell h.at in
        let number : c.0 ≡ 1 + h.place = ap (λ (d : CellId). d.0) h.number in
        (omega arith, omega arith),
    λ h.
        let inside : c.0 - 1 < length cells = below c.0 (length cells) h.0 h.1 in
        let number : 1 + (c.0 - 1) ≡ c.0 = back c.0 h.0 in
        let found = present (c.0 - 1) inside in
        ap is_some (ap (λ (n : ℕ). cell_of s (numbered n)) (sym number) ∙ cell_here types vars a cells (c.0 - 1) found.0 found.1),
  )
    where
      below : (n m : ℕ) → 0 < n → n < suc m → n - 1 < m
      below n m one two = omega arith

      back : (n : ℕ) → 0 < n → 1 + (n - 1) ≡ n
      back n one = omega arith

      there : (xs : List Standing) (k : ℕ) → k < length xs → (x : Standing) × (slice_get xs k ≡ Some x)
      there [] k less = absurd (omega arith)
      there (x ∷ xs) zero less = (x, refl)
      there (x ∷ xs) (suc k) less = there xs k (omega arith)

      present : (k : ℕ) → k < length cells → (x : Standing) × (slice_get cells k ≡ Some x)
      present k less = there cells k less

  pub AreInPreorder-decoded : AreInPreorder types vars s
  AreInPreorder-decoded c d p q of_c of_d =
      let one = placed_at types vars a cells lays are c p of_c in
      let other = placed_at types vars a cells lays are d q of_d in
      let number : c.0 ≡ 1 + one.place = ap (λ (e : CellId). e.0) one.number in
      let also : d.0 ≡ 1 + other.place = ap (λ (e : CellId). e.0) other.number in (
        λ less. subst (λ u. ComesBefore u q) one.position (subst (λ u. ComesBefore one.cell.at u) other.position
            (are.in_order one.place other.place one.cell other.cell (omega arith) one.at other.at)),
        λ before. elim (cases_order one.place other.place) [
          | inl same ↦ absurd (ComesBefore-not_itself q (subst (λ u. ComesBefore u q) (sym one.position
              ∙ ap (λ (x : Standing). x.at) (one_entry (slice_get cells other.place) one.cell other.cell (ap (λ n. slice_get cells n) (sym same) ∙ one.at)
              other.at)
              ∙ other.position) before))
          | inr apart ↦ elim apart [
            | inl less ↦ omega arith
            | inr more ↦ absurd (ComesBefore-one_way p q before
                (subst (λ u. ComesBefore u p) other.position (subst (λ u. ComesBefore other.cell.at u) one.position
                (are.in_order other.place one.place other.cell one.cell more other.at one.at))))
          ]
        ],
      )

  pub IsStoreOf-decoded : IsStoreOf types vars a s
  IsStoreOf-decoded = record {
    fits = Fits-decoded;
    fresh = IsFresh-decoded;
    backbone = IsBackbone-decoded;
    sets = sets-decoded;
    assignment = IsAssignmentOf-decoded types vars a cells lays are;
    numbers = AreNumbered-decoded;
    order = AreInPreorder-decoded;
  }
