-- Well-formed stores taken apart into pieces and put together.
use Rattle.std.proofs.Common.{◌≡◌, inl, inr, ◌<◌, Bool, true, false, cond, List, [], ◌∷◌, map, get_or, Some, None, IsSomeAnd, IfSome, refl, sym, ◌∙◌}
use Rattle.std.proofs.Common.{subst, filter, Contains, if◌then◌else◌}
use Rattle.std.specs.List.{AllByRecursion}
use Rattle.std.proofs.lemmas.Bool.{false≢true}
use Rattle.std.proofs.lemmas.List.Elements.{All-from_recursion, recursion_from_All, All-contains, Contains-get_or}
use Rattle.store_core.specs.declared.ids.TypeId.{TypeId}
use Rattle.store_core.specs.declared.ids.FieldId.{FieldId}
use Rattle.store_core.specs.declared.ids.VarId.{VarId}
use Rattle.store_core.specs.declared.ids.CellId.{CellId}
use Rattle.store_core.specs.declared.kind.VarKind.{VarKind}
use Rattle.store_core.specs.declared.kind.VarKind.TheVariants as var
use Rattle.store_core.specs.declared.value.Value.{Value}
use Rattle.store_core.specs.declared.value.Value.TheVariants as value
use Rattle.store_core.specs.CellLists.{AreRising}
use Rattle.store_core.specs.Tables.{TypeEntry, VarEntry, field_at, var_at}
use Rattle.store_core.specs.Stores.{StoreMap, IsLive, cell_of, field_value, var_value, NamesType, VarFits, VarsFit, Fits}
use Rattle.store_core.proofs.FittingLemmas.{IfSome-from, IfSome-at}
use Rattle.routing_walks.specs.declared.fault.Place.TheVariants as place
use Rattle.routing_walks.specs.Walks.{DataAlone, IsOfType}
use Rattle.routing_walks.specs.Destinations.{IsOnlyDestination, IsPointer}
use Rattle.routing_walks.specs.WellFormed.{HoldsDead, IsDangling, SetHoldsLive, IsWellFormed}
use Rattle.routing_walks.specs.Regions.{has_number, IsRest, IsApart}
use Rattle.routing_walks.proofs.LiveLemmas.{IsLive-field_value}
use Rattle.routing_walks.specs.Pieces.{value_on, piece_on}
use Rattle.routing_walks.proofs.DecidedLemmas.{in_none, in_first, in_rest, in_cases}
use Rattle.routing_walks.proofs.RegionLemmas.{number_in, in_number, only_on, rest_apart}
use Rattle.routing_walks.proofs.RegionLemmas.{value_on as field_on}
use Rattle.routing_walks.proofs.PieceLemmas.{piece_on-IsOn, at_piece, in_piece, type_on, type_off, value_off, backbone_on}
use Rattle.routing_walks.proofs.PieceLemmas.{side, live_from, backbone_from_pieces}
use Rattle.routing_walks.proofs.FitsOn.{names_type_on, cells_fit_on, above_on}

-- ---- what is left of a list

left_all : {X : Type 0} (P : X → Type 0) (b : Bool) (x : X) (xs : List X) → (b ≡ true → P x) → AllByRecursion P xs → AllByRecursion P (cond b (x ∷ xs) xs)
left_all P true x xs first rest = (first refl, rest)
left_all P false x xs first rest = rest

filter_all : {X : Type 0} (P Q : X → Type 0) (test : X → Bool) → ((x : X) → test x ≡ true → P x → Q x) → (xs : List X) → AllByRecursion P xs →
    AllByRecursion Q (filter test xs)
filter_all P Q test each [] all = tt
filter_all P Q test each (x ∷ xs) all = left_all Q (test x) x (filter test xs) (λ e. each x e all.0) (filter_all P Q test each xs all.1)

left_rising : (b : Bool) (c : CellId) (rest : List CellId) → AllByRecursion (λ d. c.0 < d.0) rest → AreRising rest → AreRising (cond b (c ∷ rest) rest)
left_rising true c rest above rising = (above, rising)
left_rising false c rest above rising = rising

filter_rising : (test : CellId → Bool) (cells : List CellId) → AreRising cells → AreRising (filter test cells)
filter_rising test [] rising = tt
filter_rising test (c ∷ cells) rising = left_rising (test c) c (filter test cells)
    (filter_all (λ d. c.0 < d.0) (λ d. c.0 < d.0) test (λ d e less. less) cells rising.0) (filter_rising test cells rising.1)

left_first : {X : Type 0} (b : Bool) (x : X) (xs : List X) → b ≡ true → Contains (cond b (x ∷ xs) xs) x
left_first true x xs e = in_first x xs
left_first false x xs e = absurd (false≢true e)

left_rest : {X : Type 0} (b : Bool) (x y : X) (xs : List X) → Contains xs y → Contains (cond b (x ∷ xs) xs) y
left_rest true x y xs m = in_rest x y xs m
left_rest false x y xs m = m

in_filter : {X : Type 0} (test : X → Bool) (xs : List X) (y : X) → Contains xs y → test y ≡ true → Contains (filter test xs) y
in_filter test [] y m e = absurd (in_none y m)
in_filter test (x ∷ xs) y m e = elim (in_cases x y xs m) [
  | inl same ↦ subst (λ z. Contains (cond (test x) (x ∷ filter test xs) (filter test xs)) z) same
      (left_first (test x) x (filter test xs) (subst (λ z. test z ≡ true) (sym same) e))
  | inr rest ↦ left_rest (test x) x y (filter test xs) (in_filter test xs y rest e)
]

module _ (cells : List CellId) (s : StoreMap) where
  -- ---- fitting

  kept_fits : (target : TypeId) (d : CellId) (b : Bool) → NamesType s target d → IfSome (if b then Some d else None) (NamesType (piece_on s cells) target)
  kept_fits target d true h = names_type_on cells s (piece_on s cells) (piece_on-IsOn cells s) target d h
  kept_fits target d false h = tt

  var_fits_on : (kind : VarKind) (x : Value) → VarFits s kind x → VarFits (piece_on s cells) kind (value_on cells x)
  var_fits_on var.Bool (value.Bool b) h = tt
  var_fits_on var.Bool (value.Cell c) h = h
  var_fits_on var.Bool (value.Cells others) h = h
  var_fits_on (var.Data target) (value.Bool b) h = h
  var_fits_on (var.Data target) (value.Cell None) h = tt
  var_fits_on (var.Data target) (value.Cell (Some d)) h = kept_fits target d (has_number cells d.0) h
  var_fits_on (var.Data target) (value.Cells others) h = h
  var_fits_on (var.Pointer target) (value.Bool b) h = h
  var_fits_on (var.Pointer target) (value.Cell None) h = tt
  var_fits_on (var.Pointer target) (value.Cell (Some d)) h = kept_fits target d (has_number cells d.0) h
  var_fits_on (var.Pointer target) (value.Cells others) h = h
  var_fits_on (var.LogicSet target) (value.Bool b) h = h
  var_fits_on (var.LogicSet target) (value.Cell c) h = h
  var_fits_on (var.LogicSet target) (value.Cells others) h = (
    filter_rising (λ c. has_number cells c.0) others h.0,
    filter_all (NamesType s target) (NamesType (piece_on s cells) target) (λ c. has_number cells c.0)
        (λ d e k. names_type_on cells s (piece_on s cells) (piece_on-IsOn cells s) target d k) others h.1,
  )
  var_fits_on var.LogicBool (value.Bool b) h = tt
  var_fits_on var.LogicBool (value.Cell c) h = h
  var_fits_on var.LogicBool (value.Cells others) h = h

  vars_fit_on : (vs : List VarEntry) (xs : List Value) → VarsFit s vs xs → VarsFit (piece_on s cells) vs (map (value_on cells) xs)
  vars_fit_on [] [] h = tt
  vars_fit_on [] (x ∷ xs) h = h
  vars_fit_on (v ∷ vs) [] h = h
  vars_fit_on (v ∷ vs) (x ∷ xs) h = (var_fits_on v.kind x h.0, vars_fit_on vs xs h.1)

  pub fits_on : (types : List TypeEntry) (vars : List VarEntry) → Fits types vars s → Fits types vars (piece_on s cells)
  fits_on types vars fits = record {
    cells = cells_fit_on cells s (piece_on s cells) (piece_on-IsOn cells s) types fits.cells;
    values = vars_fit_on vars s.vars fits.values;
    above = above_on cells s (piece_on s cells) (piece_on-IsOn cells s) refl fits.above;
  }

  -- ---- well-formed pieces

  set_holds_on : (kind : VarKind) (x : Value) → SetHoldsLive s kind x → SetHoldsLive (piece_on s cells) kind (value_on cells x)
  set_holds_on var.Bool x h = tt
  set_holds_on (var.Data target) x h = tt
  set_holds_on (var.Pointer target) x h = tt
  set_holds_on var.LogicBool x h = tt
  set_holds_on (var.LogicSet target) (value.Bool b) h = h
  set_holds_on (var.LogicSet target) (value.Cell c) h = h
  set_holds_on (var.LogicSet target) (value.Cells others) h = All-from_recursion (IsOfType (piece_on s cells) target)
      (filter (λ c. has_number cells c.0) others)
      (filter_all (IsOfType s target) (IsOfType (piece_on s cells) target) (λ c. has_number cells c.0)
      (λ d e k. type_on cells s target d (in_number cells d e) k) others (recursion_from_All (IsOfType s target) others h))

  pub well_formed_on : (types : List TypeEntry) (vars : List VarEntry) → IsApart types s DataAlone cells → IsWellFormed types vars s →
      IsWellFormed types vars (piece_on s cells)
  well_formed_on types vars whole is = record {
    fits = fits_on types vars is.fits;
    backbone = backbone_on cells s types vars whole is.backbone;
    pointers = λ c f pointer. IfSome-from (field_value (piece_on s cells) c f) _ (λ x holds.
        let off = value_off cells s c f x holds in
        (only_on types DataAlone cells s (piece_on s cells) (piece_on-IsOn cells s) whole c f x off.0).0
        (IfSome-at (field_value s c f) _ x off.1 (is.pointers c f pointer)));
    sets = λ v. IfSome-from (var_at vars v) _ (λ entry at.
        at_piece cells s (SetHoldsLive s entry.kind) (SetHoldsLive (piece_on s cells) entry.kind) (set_holds_on entry.kind) v
        (IfSome-at (var_at vars v) _ entry at (is.sets v)));
  }

  -- ---- what a well-formed piece says of the store

  module _ (types : List TypeEntry) (vars : List VarEntry) (whole : IsApart types s DataAlone cells) (is : IsWellFormed types vars (piece_on s cells)) where
    pub pointer_off : (c : CellId) (f : FieldId) (x : Value) → Contains cells c → IsSomeAnd (field_at types f) (λ entry. IsPointer entry.kind) →
        field_value s c f ≡ Some x → IsOnlyDestination types s c f x
    pointer_off c f x m pointer holds =
        (only_on types DataAlone cells s (piece_on s cells) (piece_on-IsOn cells s) whole c f x m).1
        (IfSome-at (field_value (piece_on s cells) c f) _ x (field_on cells s (piece_on s cells) (piece_on-IsOn cells s) c f m ∙ holds)
        (is.pointers c f pointer))

    pub member_off : (target : TypeId) (others : List CellId) (d : CellId) → Contains cells d → Contains others d →
        SetHoldsLive (piece_on s cells) (var.LogicSet target) (value_on cells (value.Cells others)) → IsOfType s target d
    member_off target others d m here h = type_off cells s target d (All-contains (IsOfType (piece_on s cells) target)
        (filter (λ c. has_number cells c.0) others) d h (in_filter (λ c. has_number cells c.0) others d here (number_in cells d m)))

    pub set_off : (v : VarId) (entry : VarEntry) (x : Value) → var_at vars v ≡ Some entry → var_value s v ≡ Some x →
        SetHoldsLive (piece_on s cells) entry.kind (value_on cells x)
    set_off v entry x at holds = in_piece cells s (SetHoldsLive (piece_on s cells) entry.kind) v x holds (IfSome-at (var_at vars v) _ entry at (is.sets v))

module _ (types : List TypeEntry) (vars : List VarEntry) (s : StoreMap) (fits : Fits types vars s) (cells rest : List CellId) (is : IsRest s cells rest)
    (whole : IsApart types s DataAlone cells) (named : (v : VarId) → IsDangling s (place.Var v) → ⊥) (one : IsWellFormed types vars (piece_on s cells))
    (other : IsWellFormed types vars (piece_on s rest)) where
  other_whole : IsApart types s DataAlone rest
  other_whole = rest_apart types DataAlone s cells rest is whole

  member_live : (v : VarId) (others : List CellId) (d : CellId) → var_value s v ≡ Some (value.Cells others) → Contains others d → IsLive s d
  member_live v others d holds m = live_from types vars s cells rest is whole other_whole (cell_of s d) (λ dead.
      named v (inr (subst (λ o. IsSomeAnd o (HoldsDead s)) (sym holds) (m.0, d, m.1, m.2, dead))))

  set_from : (kind : VarKind) (v : VarId) (x : Value) → var_value s v ≡ Some x → SetHoldsLive (piece_on s cells) kind (value_on cells x) →
      SetHoldsLive (piece_on s rest) kind (value_on rest x) → SetHoldsLive s kind x
  set_from var.Bool v x holds h k = tt
  set_from (var.Data target) v x holds h k = tt
  set_from (var.Pointer target) v x holds h k = tt
  set_from var.LogicBool v x holds h k = tt
  set_from (var.LogicSet target) v (value.Bool b) holds h k = h
  set_from (var.LogicSet target) v (value.Cell c) holds h k = h
  set_from (var.LogicSet target) v (value.Cells others) holds h k = λ i d within.
      let e = get_or others i d in
      let here : Contains others e = Contains-get_or others i d within in
      elim (side types vars s cells rest is whole other_whole e (member_live v others e holds here)) [
        | inl m ↦ member_off cells s types vars whole one target others e m here h
        | inr m ↦ member_off rest s types vars other_whole other target others e m here k
      ]

  pub well_formed_from_pieces : IsWellFormed types vars s
  well_formed_from_pieces = record {
    fits = fits;
    backbone = backbone_from_pieces types vars s cells rest is whole other_whole (λ v h. named v (inl h)) one.backbone other.backbone;
    pointers = λ c f pointer. IfSome-from (field_value s c f) _ (λ x holds.
        elim (side types vars s cells rest is whole other_whole c (IsLive-field_value s c f x holds)) [
          | inl m ↦ pointer_off cells s types vars whole one c f x m pointer holds
          | inr m ↦ pointer_off rest s types vars other_whole other c f x m pointer holds
        ]);
    sets = λ v. IfSome-from (var_at vars v) _ (λ entry at. IfSome-from (var_value s v) _ (λ x holds.
        set_from entry.kind v x holds (set_off cells s types vars whole one v entry x at holds)
        (set_off rest s types vars other_whole other v entry x at holds)));
  }
