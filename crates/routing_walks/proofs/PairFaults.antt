-- Paired stores: what is wrong with them, and whether they are well-formed.
use Rattle.std.proofs.Common.{◌≡◌, inl, inr, ℕ, List, [], ◌∷◌, get_or, Option, Some, None, IsSome, IsSomeAnd, IfSome, refl, sym, subst, Contains, All}
use Rattle.std.proofs.lemmas.List.Elements.{All-from_recursion, recursion_from_All, All-contains, Contains-get_or}
use Rattle.store_core.specs.declared.ids.TypeId.{TypeId}
use Rattle.store_core.specs.declared.ids.VariantId.{VariantId}
use Rattle.store_core.specs.declared.ids.FieldId.{FieldId}
use Rattle.store_core.specs.declared.ids.CellId.{CellId}
use Rattle.store_core.specs.declared.kind.FieldKind.{FieldKind}
use Rattle.store_core.specs.declared.kind.FieldKind.TheVariants as field
use Rattle.store_core.specs.declared.kind.VarKind.{VarKind}
use Rattle.store_core.specs.declared.kind.VarKind.TheVariants as var
use Rattle.store_core.specs.declared.value.Value.{Value}
use Rattle.store_core.specs.declared.value.Value.TheVariants as value
use Rattle.store_core.specs.Tables.{TypeEntry, VarEntry, FieldEntry, field_at, var_at, fields_of, KnowsVariant}
use Rattle.store_core.specs.Stores.{StoreMap, CellEntry, IsAbove, cell_of, field_value, var_value, NamesType, FieldFits, VarFits, SlotsFit, CellFits}
use Rattle.store_core.specs.Stores.{VarsFit, Fits}
use Rattle.store_core.proofs.FittingLemmas.{IfSome-from, IfSome-at, IsSomeAnd-at}
use Rattle.routing_walks.specs.declared.fault.Place.{Place}
use Rattle.routing_walks.specs.declared.fault.CutFault.{CutFault}
use Rattle.routing_walks.specs.declared.fault.CutFault.TheVariants as fault
use Rattle.routing_walks.specs.Walks.{IsOfType}
use Rattle.routing_walks.specs.Destinations.{IsOnlyDestination, IsPointer}
use Rattle.routing_walks.specs.WellFormed.{value_at, NamesDead, HoldsDead, IsDanglingReference, IsDangling, IsShared, IsLeaked, IsWrongField}
use Rattle.routing_walks.specs.WellFormed.{HoldsOfType, VarHoldsLive, FieldHoldsLive, SetHoldsLive, IsBackbone, IsWellFormed}
use Rattle.routing_walks.specs.CutFaults.{HasDanglingReference, HasShared, HasLeaked, HasWrongField, IsFirstCutFault, IsSound}
use Rattle.routing_walks.proofs.LiveLemmas.{IsLive-field_value, IsSome-and}
use Rattle.routing_walks.proofs.TreeLemmas.{Names-there}
use Rattle.routing_walks.specs.Pairing.{PairsValue, PairsSlot, Pairwise, PairsEntry, ArePaired, PairsPlace, FailAlike, FormAlike}
use Rattle.routing_walks.proofs.PairLemmas.{turn, ArePaired-turned, value_turned, place_turned, field_paired, var_paired, place_paired, live_to}
use Rattle.routing_walks.proofs.PairLemmas.{type_to, place_forth, place_one, names_to, tree_to, only_to}

module _ (types : List TypeEntry) (R : CellId → CellId → Type 0) (s t : StoreMap) (h : ArePaired R s t) where
  back : ArePaired (turn R) t s
  back = ArePaired-turned R s t h

  -- ---- faults

  dead_entry : (o p : Option CellEntry) → PairsEntry R o p → o ≡ None → p ≡ None
  dead_entry None None e dead = refl
  dead_entry None (Some other) e dead = absurd e
  dead_entry (Some cell) p e dead = absurd (cc)

  dead_to : (a c : CellId) → R a c → cell_of s a ≡ None → cell_of t c ≡ None
  dead_to a c p dead = dead_entry (cell_of s a) (cell_of t c) (h.cells a c p) dead

  names_dead_to : (x y : Value) → PairsValue R x y → NamesDead s x → NamesDead t y
  names_dead_to (value.Bool truth) y e dead = absurd dead
  names_dead_to (value.Cell None) y e dead = absurd dead
  names_dead_to (value.Cell (Some a)) (value.Cell (Some c)) e dead = dead_to a c e dead
  names_dead_to (value.Cell (Some a)) (value.Cell None) e dead = absurd e
  names_dead_to (value.Cell (Some a)) (value.Bool truth) e dead = absurd e
  names_dead_to (value.Cell (Some a)) (value.Cells others) e dead = absurd e
  names_dead_to (value.Cells cells) y e dead = absurd dead

  holds_dead_to : (x y : Value) → PairsValue R x y → HoldsDead s x → HoldsDead t y
  holds_dead_to (value.Bool truth) y e dead = absurd dead
  holds_dead_to (value.Cell c) y e dead = absurd dead
  holds_dead_to (value.Cells cells) (value.Bool truth) e dead = absurd e
  holds_dead_to (value.Cells cells) (value.Cell None) e dead = absurd e
  holds_dead_to (value.Cells cells) (value.Cell (Some d)) e dead = absurd e
  holds_dead_to (value.Cells cells) (value.Cells others) e dead =
      let k = e.2 dead.1 (dead.0, dead.2, dead.3) in (k.1.0, k.0, k.1.1, k.1.2, dead_to dead.1 k.0 k.2 dead.4)

  -- a fact of values that pairs keep
  some_to : (P Q : Value → Type 0) → ((x y : Value) → PairsValue R x y → P x → Q y) → (o p : Option Value) → PairsSlot R o p → IsSomeAnd o P → IsSomeAnd p Q
  some_to P Q each None p e k = absurd k
  some_to P Q each (Some x) None e k = absurd e
  some_to P Q each (Some x) (Some y) e k = each x y e k

  if_to : (P Q : Value → Type 0) → ((x y : Value) → PairsValue R x y → P x → Q y) → (o p : Option Value) → PairsSlot R o p → IfSome o P → IfSome p Q
  if_to P Q each None None e k = tt
  if_to P Q each None (Some y) e k = absurd e
  if_to P Q each (Some x) None e k = tt
  if_to P Q each (Some x) (Some y) e k = each x y e k

  pub reference_dangles_to : (p q : Place) → PairsPlace R p q → IsDanglingReference s p → IsDanglingReference t q
  reference_dangles_to p q e k = some_to (NamesDead s) (NamesDead t) names_dead_to (value_at s p) (value_at t q) (place_paired R s t h p q e) k

  pub dangles_to : (p q : Place) → PairsPlace R p q → IsDangling s p → IsDangling t q
  dangles_to p q e (inl k) = inl (reference_dangles_to p q e k)
  dangles_to p q e (inr k) = inr (some_to (HoldsDead s) (HoldsDead t) holds_dead_to (value_at s p) (value_at t q) (place_paired R s t h p q e) k)

  pub shared_to : (vars : List VarEntry) (a c : CellId) → R a c → IsShared types vars s a → IsShared types vars t c
  shared_to vars a c p k =
      let one = place_forth R s t h k.one (Names-there types vars s k.one a k.by_one) in
      let other = place_forth R s t h k.other (Names-there types vars s k.other a k.by_other) in
      record {
        live = live_to R s t h a c p k.live;
        one = one.0;
        other = other.0;
        apart = λ same. k.apart (place_one R s t h k.one k.other one.0 one.1 (subst (PairsPlace R k.other) (sym same) other.1));
        by_one = names_to types R s t h vars k.one one.0 a c one.1 p k.by_one;
        by_other = names_to types R s t h vars k.other other.0 a c other.1 p k.by_other;
      }

  pub leaked_to : (vars : List VarEntry) (a c : CellId) → R a c → IsLeaked types vars s a → IsLeaked types vars t c
  leaked_to vars a c p k = record {
    live = live_to R s t h a c p k.live;
    unreached = λ v tree. k.unreached v (tree_to types (turn R) t s back vars v c a p tree);
  }

  pub wrong_to : (f : FieldId) (a c : CellId) → R a c → IsWrongField types s a f → IsWrongField types t c f
  wrong_to f a c p k = record {
    kind = k.kind;
    wrong = some_to (λ x. IsOnlyDestination types s a f x → ⊥) (λ y. IsOnlyDestination types t c f y → ⊥)
        (λ x y e wrong only. wrong (only_to types (turn R) t s back f c a y x p (value_turned R x y e) only))
        (field_value s a f) (field_value t c f) (field_paired R s t h a c f p) k.wrong;
  }

  -- ---- the conditions of a cut

  dangling_to : HasDanglingReference s → HasDanglingReference t
  dangling_to k =
      let q = place_forth R s t h k.place (IsSome-and (value_at s k.place) _ k.dangling) in
      record { place = q.0; dangling = reference_dangles_to k.place q.0 q.1 k.dangling }

  some_shared_to : (vars : List VarEntry) → HasShared types vars s → HasShared types vars t
  some_shared_to vars k = let c = h.forth k.cell k.shared.live in record { cell = c.0; shared = shared_to vars k.cell c.0 c.1 k.shared }

  some_leaked_to : (vars : List VarEntry) → HasLeaked types vars s → HasLeaked types vars t
  some_leaked_to vars k = let c = h.forth k.cell k.leaked.live in record { cell = c.0; leaked = leaked_to vars k.cell c.0 c.1 k.leaked }

  some_wrong_to : HasWrongField types s → HasWrongField types t
  some_wrong_to k =
      let x = IsSomeAnd-at (field_value s k.cell k.field) _ k.wrong.wrong in
      let c = h.forth k.cell (IsLive-field_value s k.cell k.field x.0 x.1) in
      record { cell = c.0; field = k.field; wrong = wrong_to k.field k.cell c.0 c.1 k.wrong }

  -- ---- fitting

  names_type_entry : (target : TypeId) (o p : Option CellEntry) → PairsEntry R o p → IfSome o (λ cell. cell.variant.ty ≡ target) →
      IfSome p (λ cell. cell.variant.ty ≡ target)
  names_type_entry target None None e k = tt
  names_type_entry target None (Some other) e k = absurd e
  names_type_entry target (Some cell) None e k = tt
  names_type_entry target (Some cell) (Some other) e k = subst (λ (v : VariantId). v.ty ≡ target) e.variant k

  names_type_to : (target : TypeId) (a c : CellId) → R a c → NamesType s target a → NamesType t target c
  names_type_to target a c p k = names_type_entry target (cell_of s a) (cell_of t c) (h.cells a c p) k

  members_to : (P Q : CellId → Type 0) → ((a c : CellId) → R a c → P a → Q c) → (cells others : List CellId) →
      ((d : CellId) → Contains others d → (c : CellId) × Contains cells c × R c d) → All P cells → All Q others
  members_to P Q each cells others from all i d within =
      let k = from (get_or others i d) (Contains-get_or others i d within) in
      each k.0 (get_or others i d) k.2 (All-contains P cells k.0 all k.1)

  reference_fits_to : (target : TypeId) (x y : Option CellId) → PairsValue R (value.Cell x) (value.Cell y) → IfSome x (NamesType s target)
      → IfSome y (NamesType t target)
  reference_fits_to target None None e k = tt
  reference_fits_to target None (Some d) e k = absurd e
  reference_fits_to target (Some c) None e k = tt
  reference_fits_to target (Some c) (Some d) e k = names_type_to target c d e k

  field_fits_to : (kind : FieldKind) (x y : Value) → PairsValue R x y → FieldFits s kind x → FieldFits t kind y
  field_fits_to field.Bool (value.Bool b) (value.Bool d) e k = tt
  field_fits_to (field.Data target) (value.Cell c) (value.Cell d) e k = reference_fits_to target c d e k
  field_fits_to (field.Pointer target along) (value.Cell c) (value.Cell d) e k = reference_fits_to target c d e k
  field_fits_to field.Bool (value.Cell c) y e k = absurd k
  field_fits_to field.Bool (value.Cells c) y e k = absurd k
  field_fits_to (field.Data target) (value.Bool b) y e k = absurd k
  field_fits_to (field.Data target) (value.Cells b) y e k = absurd k
  field_fits_to (field.Pointer target along) (value.Bool b) y e k = absurd k
  field_fits_to (field.Pointer target along) (value.Cells b) y e k = absurd k
  field_fits_to kind x y e k = absurd e

  var_fits_to : (kind : VarKind) (x y : Value) → PairsValue R x y → VarFits s kind x → VarFits t kind y
  var_fits_to var.Bool (value.Bool b) (value.Bool d) e k = tt
  var_fits_to var.LogicBool (value.Bool b) (value.Bool d) e k = tt
  var_fits_to (var.Data target) (value.Cell c) (value.Cell d) e k = reference_fits_to target c d e k
  var_fits_to (var.Pointer target) (value.Cell c) (value.Cell d) e k = reference_fits_to target c d e k
  var_fits_to (var.LogicSet target) (value.Cells cells) (value.Cells others) e k = (
    e.1,
    recursion_from_All (NamesType t target) others (members_to (NamesType s target) (NamesType t target) (names_type_to target) cells others e.3
        (All-from_recursion (NamesType s target) cells k.1)),
  )
  var_fits_to var.Bool (value.Cell c) y e k = absurd k
  var_fits_to var.Bool (value.Cells c) y e k = absurd k
  var_fits_to var.LogicBool (value.Cell c) y e k = absurd k
  var_fits_to var.LogicBool (value.Cells c) y e k = absurd k
  var_fits_to (var.Data target) (value.Bool b) y e k = absurd k
  var_fits_to (var.Data target) (value.Cells b) y e k = absurd k
  var_fits_to (var.Pointer target) (value.Bool b) y e k = absurd k
  var_fits_to (var.Pointer target) (value.Cells b) y e k = absurd k
  var_fits_to (var.LogicSet target) (value.Bool b) y e k = absurd k
  var_fits_to (var.LogicSet target) (value.Cell b) y e k = absurd k
  var_fits_to kind x y e k = absurd e

  slots_fit_to : (index : ℕ) (fs : List FieldEntry) (xs ys : List (Option Value)) → Pairwise (PairsSlot R) xs ys → SlotsFit s index fs xs
      → SlotsFit t index fs ys
  slots_fit_to index [] [] [] e k = tt
  slots_fit_to index [] [] (y ∷ ys) e k = absurd e
  slots_fit_to index [] (x ∷ xs) ys e k = absurd k
  slots_fit_to index (f ∷ fs) [] ys e k = absurd k
  slots_fit_to index (f ∷ fs) (x ∷ xs) [] e k = absurd e
  slots_fit_to index (f ∷ fs) (None ∷ xs) (None ∷ ys) e k = (k.0, slots_fit_to index fs xs ys e.1 k.1)
  slots_fit_to index (f ∷ fs) (None ∷ xs) (Some y ∷ ys) e k = absurd e.0
  slots_fit_to index (f ∷ fs) (Some x ∷ xs) (None ∷ ys) e k = absurd e.0
  slots_fit_to index (f ∷ fs) (Some x ∷ xs) (Some y ∷ ys) e k =
      ((k.0.0, field_fits_to f.kind x y e.0 k.0.1), slots_fit_to index fs xs ys e.1 k.1)

  vars_fit_to : (vs : List VarEntry) (xs ys : List Value) → Pairwise (PairsValue R) xs ys → VarsFit s vs xs → VarsFit t vs ys
  vars_fit_to [] [] [] e k = tt
  vars_fit_to [] [] (y ∷ ys) e k = absurd e
  vars_fit_to [] (x ∷ xs) ys e k = absurd k
  vars_fit_to (v ∷ vs) [] ys e k = absurd k
  vars_fit_to (v ∷ vs) (x ∷ xs) [] e k = absurd e
  vars_fit_to (v ∷ vs) (x ∷ xs) (y ∷ ys) e k = (var_fits_to v.kind x y e.0 k.0, vars_fit_to vs xs ys e.1 k.1)

  cell_fits_to : (o p : Option CellEntry) → PairsEntry R o p → IfSome o (CellFits types s) → IfSome p (CellFits types t)
  cell_fits_to None None e k = tt
  cell_fits_to None (Some other) e k = absurd e
  cell_fits_to (Some cell) None e k = tt
  cell_fits_to (Some cell) (Some other) e k = record {
    variant = subst (KnowsVariant types) e.variant k.variant;
    values = subst (λ (v : VariantId). SlotsFit t v.index (fields_of types v.ty) other.values) e.variant
        (slots_fit_to cell.variant.index (fields_of types cell.variant.ty) cell.values other.values e.values k.values);
  }

  pub fits_to : (vars : List VarEntry) → IsAbove t → Fits types vars s → Fits types vars t
  fits_to vars above fits = record {
    cells = λ c. IfSome-from (cell_of t c) (CellFits types t) (λ cell at.
        let a = h.back c (subst IsSome (sym at) refl) in
        IfSome-at (cell_of t c) (CellFits types t) cell at (cell_fits_to (cell_of s a.0) (cell_of t c) (h.cells a.0 c a.1) (fits.cells a.0)));
    values = vars_fit_to vars s.vars t.vars h.vars fits.values;
    above = above;
  }

  -- ---- backbones

  holds_to : (target : TypeId) (x y : Value) → PairsValue R x y → HoldsOfType s target x → HoldsOfType t target y
  holds_to target (value.Bool b) y e k = absurd k
  holds_to target (value.Cells b) y e k = absurd k
  holds_to target (value.Cell None) (value.Cell None) e k = tt
  holds_to target (value.Cell (Some c)) (value.Cell (Some d)) e k = type_to R s t h target c d e k
  holds_to target x y e k = absurd e

  var_holds_to : (kind : VarKind) (x y : Value) → PairsValue R x y → VarHoldsLive s kind x → VarHoldsLive t kind y
  var_holds_to var.Bool x y e k = tt
  var_holds_to (var.Data target) x y e k = holds_to target x y e k
  var_holds_to (var.Pointer target) x y e k = holds_to target x y e k
  var_holds_to (var.LogicSet target) x y e k = tt
  var_holds_to var.LogicBool x y e k = tt

  field_holds_to : (kind : FieldKind) (x y : Value) → PairsValue R x y → FieldHoldsLive s kind x → FieldHoldsLive t kind y
  field_holds_to field.Bool x y e k = tt
  field_holds_to (field.Data target) x y e k = holds_to target x y e k
  field_holds_to (field.Pointer target along) x y e k = tt

  set_holds_to : (kind : VarKind) (x y : Value) → PairsValue R x y → SetHoldsLive s kind x → SetHoldsLive t kind y
  set_holds_to var.Bool x y e k = tt
  set_holds_to (var.Data target) x y e k = tt
  set_holds_to (var.Pointer target) x y e k = tt
  set_holds_to var.LogicBool x y e k = tt
  set_holds_to (var.LogicSet target) (value.Bool b) y e k = absurd k
  set_holds_to (var.LogicSet target) (value.Cell b) y e k = absurd k
  set_holds_to (var.LogicSet target) (value.Cells cells) (value.Cells others) e k =
      members_to (IsOfType s target) (IsOfType t target) (type_to R s t h target) cells others e.3 k
  set_holds_to (var.LogicSet target) x y e k = absurd e

  -- a fact of a field that a cell has
  field_if : (P : CellId → Value → Type 0) (Q : CellId → Value → Type 0) → ((a c : CellId) → R a c → (x y : Value) → PairsValue R x y → P a x → Q c y) →
      (f : FieldId) → ((a : CellId) → IfSome (field_value s a f) (P a)) → (c : CellId) → IfSome (field_value t c f) (Q c)
  field_if P Q each f k c = IfSome-from (field_value t c f) (Q c) (λ y holds.
      let a = h.back c (IsLive-field_value t c f y holds) in
      IfSome-at (field_value t c f) (Q c) y holds
      (if_to (P a.0) (Q c) (each a.0 c a.1) (field_value s a.0 f) (field_value t c f) (field_paired R s t h a.0 c f a.1) (k a.0)))

  pub backbone_to : (vars : List VarEntry) → IsBackbone types vars s → IsBackbone types vars t
  backbone_to vars backbone = record {
    cell_vars = λ v. IfSome-from (var_at vars v) _ (λ entry at.
        if_to (VarHoldsLive s entry.kind) (VarHoldsLive t entry.kind) (var_holds_to entry.kind) (var_value s v) (var_value t v) (var_paired R s t h v)
        (IfSome-at (var_at vars v) _ entry at (backbone.cell_vars v)));
    data_fields = λ c f. IfSome-from (field_at types f) _ (λ entry at.
        field_if (λ a. FieldHoldsLive s entry.kind) (λ c. FieldHoldsLive t entry.kind) (λ a c p x y e k. field_holds_to entry.kind x y e k) f
        (λ a. IfSome-at (field_at types f) _ entry at (backbone.data_fields a f)) c);
    named_once = λ c p q live by_p by_q.
        let a = h.back c live in
        let one = place_forth (turn R) t s back p (Names-there types vars t p c by_p) in
        let other = place_forth (turn R) t s back q (Names-there types vars t q c by_q) in
        let same = backbone.named_once a.0 one.0 other.0 (live_to (turn R) t s back c a.0 a.1 live)
        (names_to types (turn R) t s back vars p one.0 c a.0 one.1 a.1 by_p) (names_to types (turn R) t s back vars q other.0 c a.0 other.1 a.1 by_q) in
        place_one (turn R) t s back p q one.0 one.1 (subst (λ x. PairsPlace (turn R) q x) (sym same) other.1);
    reached = λ c live.
        let a = h.back c live in
        let tree = backbone.reached a.0 (live_to (turn R) t s back c a.0 a.1 live) in
        (tree.0, tree_to types R s t h vars tree.0 a.0 c a.1 tree.1);
  }

  pointers_to : ((c : CellId) (f : FieldId) → IsSomeAnd (field_at types f) (λ entry. IsPointer entry.kind) →
      IfSome (field_value s c f) (IsOnlyDestination types s c f)) →
      (c : CellId) (f : FieldId) → IsSomeAnd (field_at types f) (λ entry. IsPointer entry.kind) → IfSome (field_value t c f) (IsOnlyDestination types t c f)
  pointers_to right c f pointer = field_if (λ a. IsOnlyDestination types s a f) (λ c. IsOnlyDestination types t c f)
      (λ a c p x y e k. only_to types R s t h f a c x y p e k) f (λ a. right a f pointer) c

  pub well_formed_to : (vars : List VarEntry) → IsAbove t → IsWellFormed types vars s → IsWellFormed types vars t
  well_formed_to vars above is = record {
    fits = fits_to vars above is.fits;
    backbone = backbone_to vars is.backbone;
    pointers = pointers_to is.pointers;
    sets = λ v. IfSome-from (var_at vars v) _ (λ entry at.
        if_to (SetHoldsLive s entry.kind) (SetHoldsLive t entry.kind) (set_holds_to entry.kind) (var_value s v) (var_value t v) (var_paired R s t h v)
        (IfSome-at (var_at vars v) _ entry at (is.sets v)));
  }

  sound_to : (vars : List VarEntry) → IsSound types vars s → IsSound types vars t
  sound_to vars is = record { backbone = backbone_to vars is.backbone; pointers = pointers_to is.pointers }

-- the condition that holds first
module _ (types : List TypeEntry) (R : CellId → CellId → Type 0) (s t : StoreMap) (h : ArePaired R s t) where
  first_to : (vars : List VarEntry) (first : CutFault) → IsFirstCutFault types vars s first → IsFirstCutFault types vars t first
  first_to vars fault.DanglingReference k = dangling_to types R s t h k
  first_to vars fault.Shared k = (λ d. k.0 (dangling_to types (turn R) t s (back types R s t h) d), some_shared_to types R s t h vars k.1)
  first_to vars fault.Leak k = (
    λ d. k.0 (dangling_to types (turn R) t s (back types R s t h) d),
    λ d. k.1 (some_shared_to types (turn R) t s (back types R s t h) vars d),
    some_leaked_to types R s t h vars k.2,
  )
  first_to vars fault.Field k = (
    λ d. k.0 (dangling_to types (turn R) t s (back types R s t h) d),
    λ d. k.1 (some_shared_to types (turn R) t s (back types R s t h) vars d),
    λ d. k.2 (some_leaked_to types (turn R) t s (back types R s t h) vars d),
    some_wrong_to types R s t h k.3,
  )

module _ (types : List TypeEntry) (R : CellId → CellId → Type 0) (s t : StoreMap) (h : ArePaired R s t) where
  backwards : ArePaired (turn R) t s
  backwards = ArePaired-turned R s t h

  pub FailAlike-paired : FailAlike types R s t
  FailAlike-paired = record {
    references = λ p q e. (reference_dangles_to types R s t h p q e, reference_dangles_to types (turn R) t s backwards q p (place_turned R p q e));
    dangling = λ p q e. (dangles_to types R s t h p q e, dangles_to types (turn R) t s backwards q p (place_turned R p q e));
    shared = λ vars a c p. (shared_to types R s t h vars a c p, shared_to types (turn R) t s backwards vars c a p);
    leaked = λ vars a c p. (leaked_to types R s t h vars a c p, leaked_to types (turn R) t s backwards vars c a p);
    wrong = λ f a c p. (wrong_to types R s t h f a c p, wrong_to types (turn R) t s backwards f c a p);
  }

  pub FormAlike-paired : IsAbove s → IsAbove t → FormAlike types s t
  FormAlike-paired above_s above_t = record {
    fits = λ vars. (fits_to types R s t h vars above_t, fits_to types (turn R) t s backwards vars above_s);
    backbones = λ vars. (backbone_to types R s t h vars, backbone_to types (turn R) t s backwards vars);
    well_formed = λ vars. (well_formed_to types R s t h vars above_t, well_formed_to types (turn R) t s backwards vars above_s);
    sound = λ vars. (sound_to types R s t h vars, sound_to types (turn R) t s backwards vars);
    cuts = λ vars first. (first_to types R s t h vars first, first_to types (turn R) t s backwards vars first);
  }
