-- The variables of a backbone on the tracks of its assignment.
use Rattle.std.proofs.Common.{◌≡◌, inl, inr, true, List, [], take, unwrap_or, IsTrue, IfSome, Some, refl, sym, ap, ◌∙◌, subst}
use Rattle.std.specs.Prelude.{count_by}
use Rattle.std.proofs.lemmas.List.Elements.{All-contains}
use Rattle.gta_theory.specs.Assignments.{Position, Assignment}
use Rattle.ws2s_core.specs.declared.track.Track.{Track}
use Rattle.ws2s_forms.specs.Places.{slot_of}
use Rattle.store_core.specs.declared.ids.TypeId.{TypeId}
use Rattle.store_core.specs.declared.ids.VarId.{VarId}
use Rattle.store_core.specs.declared.ids.CellId.{CellId}
use Rattle.store_core.specs.declared.kind.VarKind.{VarKind}
use Rattle.store_core.specs.declared.kind.VarKind.TheVariants as var
use Rattle.store_core.specs.declared.value.Value.{Value}
use Rattle.store_core.specs.declared.value.Value.TheVariants as value
use Rattle.store_core.specs.Tables.{TypeEntry, VarEntry, var_at}
use Rattle.store_core.specs.Stores.{StoreMap, var_value, VarFits, Fits}
use Rattle.store_core.proofs.FittingLemmas.{IfSome-from, IfSome-at, IsSomeAnd-at, var_at_value}
use Rattle.routing_walks.specs.Walks.{IsOfType}
use Rattle.routing_walks.specs.WellFormed.{IsDataVar, VarHoldsLive, SetHoldsLive, IsBackbone}
use Rattle.tree_encode.specs.Counting.{is_data_var}
use Rattle.tree_encode.specs.Tracks.{of_var, var_track, slot_of_var}
use Rattle.tree_encode.specs.Positions.{IsPlaced}
use Rattle.tree_encode.proofs.PositionsLemmas.{data_var, slotted}
use Rattle.tree_encode.proofs.ApartLemmas.{one-position}
use Rattle.tree_store.specs.Encoding.{NamesCell, IsAssignmentOf}
use Rattle.tree_store.proofs.SpotsLemmas.{of-some}
use Rattle.tree_store.specs.Shapes.{HasRootAtMost, HasCellsIn, VarLaysOut, LaysOut}
use Rattle.tree_store.specs.Premises.{SetsHoldLive}
use Rattle.tree_store.proofs.NumbersLemmas.{variables-apart}
use Rattle.tree_store.proofs.StoresLemmas.{placed-live, typed-marked, marked-typed}
use Rattle.tree_store.proofs.BackboneLemmas.{slot-path, holds-live, data-named, all-placed, all-apart, all-bools}

-- ---- values that fit their kinds

bool-names : (s : StoreMap) (x : Value) (c : CellId) → VarFits s var.Bool x → NamesCell x c → ⊥
bool-names s (value.Bool b) c fit names = names
bool-names s (value.Cell d) c fit names = fit
bool-names s (value.Cells cells) c fit names = fit

logic-names : (s : StoreMap) (x : Value) (c : CellId) → VarFits s var.LogicBool x → NamesCell x c → ⊥
logic-names s (value.Bool b) c fit names = names
logic-names s (value.Cell d) c fit names = fit
logic-names s (value.Cells cells) c fit names = fit

data-value : (s : StoreMap) (ty : TypeId) (x : Value) (c : CellId) → VarFits s (var.Data ty) x → NamesCell x c → x ≡ value.Cell (Some c)
data-value s ty (value.Bool b) c fit names = absurd fit
data-value s ty (value.Cell d) c fit names = ap (λ o. value.Cell o) names
data-value s ty (value.Cells cells) c fit names = absurd fit

pointer-value : (s : StoreMap) (ty : TypeId) (x : Value) (c : CellId) → VarFits s (var.Pointer ty) x → NamesCell x c → x ≡ value.Cell (Some c)
pointer-value s ty (value.Bool b) c fit names = absurd fit
pointer-value s ty (value.Cell d) c fit names = ap (λ o. value.Cell o) names
pointer-value s ty (value.Cells cells) c fit names = absurd fit

-- a member of a set that holds live cells of the type
set-member : (s : StoreMap) (ty : TypeId) (x : Value) (c : CellId) → VarFits s (var.LogicSet ty) x → SetHoldsLive s (var.LogicSet ty) x →
    NamesCell x c → IsOfType s ty c
set-member s ty (value.Bool b) c fit live names = absurd fit
set-member s ty (value.Cell d) c fit live names = absurd fit
set-member s ty (value.Cells cells) c fit live names = All-contains (IsOfType s ty) cells c live names

-- a cell that the variable names, or holds, stands at the position
record IsNamedAt (types : List TypeEntry) (vars : List VarEntry) (s : StoreMap) (v : VarId) (p : Position) : Type 0 where
  cell : CellId
  placed : IsPlaced types vars s cell p
  held : Value
  holds : var_value s v ≡ Some held
  names : NamesCell held cell

-- ---- a variable's track

module _ (types : List TypeEntry) (vars : List VarEntry) (s : StoreMap) (a : Assignment) (fits : Fits types vars s) (backbone : IsBackbone types vars s)
    (sets : SetsHoldLive vars s) (means : IsAssignmentOf types vars s a) (v : VarId) (entry : VarEntry) (there : var_at vars v ≡ Some entry) (x : Track)
    (is : var_track types vars v ≡ Some x) where
  value-fits : (kind : VarKind) (y : Value) → entry.kind ≡ kind → var_value s v ≡ Some y → VarFits s kind y
  value-fits kind y sort holds =
      let at = var_at_value types vars s fits v y holds in
      let both : Some at.entry ≡ Some entry = sym at.at ∙ there in
      let same : at.entry ≡ entry = cc in
      subst (λ k. VarFits s k y) (ap (λ (e : VarEntry). e.kind) same ∙ sort) at.fits

  truth-lays : (kind : VarKind) → entry.kind ≡ kind → ((y : Value) (c : CellId) → VarFits s kind y → NamesCell y c → ⊥) → HasRootAtMost a x.0
  truth-lays kind sort no_cell p on = elim ((means.tracks (of_var v) x p is).0 on) as (λ _. p ≡ []) [
    | inl root ↦ root.0
    | inr found ↦ (let (y, holds, names) = IsSomeAnd-at (var_value s v) (λ z. NamesCell z found.0) found.2 in
        absurd (no_cell y found.0 (value-fits kind y sort holds) names))
  ]

  on-cell : (kind : VarKind) → entry.kind ≡ kind → (VarFits s kind (value.Bool true) → ⊥) → (p : Position) → IsTrue (a x.0 p) → IsNamedAt types vars s v p
  on-cell kind sort no_truth p on = elim ((means.tracks (of_var v) x p is).0 on) as (λ _. IsNamedAt types vars s v p) [
    | inl root ↦ absurd (no_truth (value-fits kind (value.Bool true) sort root.1))
    | inr found ↦ (let (y, holds, names) = IsSomeAnd-at (var_value s v) (λ z. NamesCell z found.0) found.2 in
        record { cell = found.0; placed = found.1; held = y; holds = holds; names = names })
  ]

  -- a placed cell has no other position
  position-one : (c : CellId) (p q : Position) → IsPlaced types vars s c p → IsPlaced types vars s c q → p ≡ q
  position-one c p q placed also =
      let one = one-position types vars s c backbone (placed-live types vars s c p placed) in one.only p placed ∙ sym (one.only q also)

  -- the cell that a data variable names stands in its slot
  in-slot : (ty : TypeId) (c : CellId) (p : Position) → entry.kind ≡ var.Data ty → IsPlaced types vars s c p →
      var_value s v ≡ Some (value.Cell (Some c)) → p ≡ slot_of (unwrap_or (slot_of_var vars v) 0)
  in-slot ty c p sort placed holds =
      position-one c p (slot_of (unwrap_or (slot_of_var vars v) 0)) placed (record {
        var = v;
        fields = [];
        at = record {
          root = c;
          named = record { place = of-some (λ e. IsDataVar e.kind) (var_at vars v) entry there (subst IsDataVar (sym sort) tt); value = holds };
          along = (refl, placed-live types vars s c p placed);
        };
        position = refl;
      })

  data-lays : (ty : TypeId) → entry.kind ≡ var.Data ty → VarLaysOut types a (unwrap_or (slot_of_var vars v) 0) x.0 (var.Data ty)
  data-lays ty sort p = (
    (λ on.
        let named = on-cell (var.Data ty) sort (λ fit. fit) p on in
        let cell_is = data-value s ty named.held named.cell (value-fits (var.Data ty) named.held sort named.holds) named.names in
        let holds : var_value s v ≡ Some (value.Cell (Some named.cell)) = named.holds ∙ ap (λ y. Some y) cell_is in (
          in-slot ty named.cell p sort named.placed holds,
          typed-marked types vars s a fits means ty named.cell p
              (data-named types vars s a fits backbone sets means v entry ty named.cell there sort holds) named.placed,
        )),
    (λ both.
        let (c, placed, typed) = marked-typed types vars s a fits means ty p both.1 in
        let (number, root) = slot-path types vars s placed.var placed.fields placed.at.root c (unwrap_or (slot_of_var vars v) 0) placed.at.along
        (sym both.0 ∙ placed.position) in
        let (other, found, is_data) = IsSomeAnd-at (var_at vars placed.var) (λ e. IsDataVar e.kind) placed.at.named.place in
        let (uy, is_sort) = data_var other.kind is_data in
        let own = slotted vars v entry ty there sort in
        let slot = slotted vars placed.var other uy found is_sort in
        let same : v ≡ placed.var =
        variables-apart vars v placed.var (count_by is_data_var (take v.0 vars)) own
        (slot ∙ ap (λ n. Some n) (sym (ap (λ o. unwrap_or o 0) slot) ∙ sym number ∙ ap (λ o. unwrap_or o 0) own)) in
        let holds : var_value s v ≡ Some (value.Cell (Some c)) =
        ap (λ w. var_value s w) same ∙ placed.at.named.value ∙ ap (λ r. Some (value.Cell (Some r))) root in
        (means.tracks (of_var v) x p is).1 (inr (c, placed, of-some (λ z. NamesCell z c) (var_value s v) (value.Cell (Some c)) holds refl))),
  )

  pointer-lays : (ty : TypeId) → entry.kind ≡ var.Pointer ty → VarLaysOut types a (unwrap_or (slot_of_var vars v) 0) x.0 (var.Pointer ty)
  pointer-lays ty sort = (
    (λ p on.
        let named = at p on in
        typed-marked types vars s a fits means ty named.cell p
        (subst (λ k. VarHoldsLive s k (value.Cell (Some named.cell))) sort
        (holds-live types vars s a fits backbone sets means v entry (value.Cell (Some named.cell)) there (cell-held p on))) named.placed),
    (λ p q on also.
        let one = at p on in
        let other = at q also in
        let both : Some (value.Cell (Some one.cell)) ≡ Some (value.Cell (Some other.cell)) = sym (cell-held p on) ∙ cell-held q also in
        let same : one.cell ≡ other.cell = cc in
        position-one other.cell p q (subst (λ c. IsPlaced types vars s c p) same one.placed) other.placed),
  )
    where
      at : (p : Position) → IsTrue (a x.0 p) → IsNamedAt types vars s v p
      at p on = on-cell (var.Pointer ty) sort (λ fit. fit) p on

      cell-held : (p : Position) (on : IsTrue (a x.0 p)) → let named = at p on in var_value s v ≡ Some (value.Cell (Some named.cell))
      cell-held p on =
          let named = at p on in
          named.holds ∙ ap (λ y. Some y) (pointer-value s ty named.held named.cell (value-fits (var.Pointer ty) named.held sort named.holds) named.names)

  set-lays : (ty : TypeId) → entry.kind ≡ var.LogicSet ty → HasCellsIn types a ty x.0
  set-lays ty sort p on =
      let named = on-cell (var.LogicSet ty) sort (λ fit. fit) p on in
      let live : SetHoldsLive s entry.kind named.held =
      IfSome-at (var_value s v) (SetHoldsLive s entry.kind) named.held named.holds
      (IfSome-at (var_at vars v) (λ e. IfSome (var_value s v) (SetHoldsLive s e.kind)) entry there (sets v)) in
      typed-marked types vars s a fits means ty named.cell p
      (set-member s ty named.held named.cell (value-fits (var.LogicSet ty) named.held sort named.holds)
      (subst (λ k. SetHoldsLive s k named.held) sort live) named.names) named.placed

  var-lays : (kind : VarKind) → entry.kind ≡ kind → VarLaysOut types a (unwrap_or (slot_of_var vars v) 0) x.0 kind
  var-lays var.Bool sort = truth-lays var.Bool sort (bool-names s)
  var-lays (var.Data ty) sort = data-lays ty sort
  var-lays (var.Pointer ty) sort = pointer-lays ty sort
  var-lays (var.LogicSet ty) sort = set-lays ty sort
  var-lays var.LogicBool sort = truth-lays var.LogicBool sort (logic-names s)

-- ---- all together

pub backbone-lays : (types : List TypeEntry) (vars : List VarEntry) (s : StoreMap) (a : Assignment) → Fits types vars s → IsBackbone types vars s →
    SetsHoldLive vars s → IsAssignmentOf types vars s a → LaysOut types vars a
backbone-lays types vars s a fits backbone sets means = record {
  placed = all-placed types vars s a fits backbone sets means;
  apart = all-apart types vars s a fits backbone sets means;
  bools = all-bools types vars s a fits backbone sets means;
  variables = λ v.
      IfSome-from (var_at vars v) (λ entry. IfSome (var_track types vars v) (λ x. VarLaysOut types a (unwrap_or (slot_of_var vars v) 0) x.0 entry.kind))
      (λ entry there. IfSome-from (var_track types vars v) (λ x. VarLaysOut types a (unwrap_or (slot_of_var vars v) 0) x.0 entry.kind) (λ x is.
      var-lays types vars s a fits backbone sets means v entry there x is entry.kind refl));
}
