-- Places in lists of variables and of arguments, and what variables hold.
use Rattle.std.proofs.Common.{◌≡◌, ◌≢◌, ◌==◌, ◌<◌, ◌≤◌, ◌+◌, ◌⊎◌, inl, inr, ℕ, zero, suc, Bool, true, false, not, ◌&&◌, ◌||◌, List, [], ◌∷◌, ◌++◌, length}
use Rattle.std.proofs.Common.{slice_get, flat_map, Option, Some, None, IsSome, IsSomeAnd, IfSome, Contains, if◌then◌else◌, unwrap_or, refl, sym, ap}
use Rattle.std.proofs.Common.{◌∙◌, subst, arith}
use Rattle.std.specs.Prelude.{option_map}
use Rattle.std.specs.List.{AllByRecursion, AllZip, AllPairs}
use Rattle.std.specs.Option.{option_map_or, option_and_then}
use Rattle.std.proofs.lemmas.Bool.{false≢true}
use Rattle.std.proofs.lemmas.Option.{slice_get_within, get_or_from_slice_get}
use Rattle.store_core.specs.declared.ids.TypeId.{TypeId}
use Rattle.store_core.specs.declared.ids.FieldId.{FieldId}
use Rattle.store_core.specs.declared.ids.VarId.{VarId}
use Rattle.store_core.specs.declared.ids.CellId.{CellId}
use Rattle.store_core.specs.declared.kind.VarKind.{VarKind}
use Rattle.store_core.specs.declared.kind.VarKind.TheVariants as var
use Rattle.store_core.specs.declared.value.Value.{Value}
use Rattle.store_core.specs.declared.value.Value.TheVariants as value
use Rattle.store_core.specs.Tables.{TypeEntry, VarEntry, var_at}
use Rattle.store_core.specs.Stores.{StoreMap, CellEntry, IsLive, cell_of, field_of, field_value, var_value, NamesLiveAlone}
use Rattle.store_core.proofs.AboveLemmas.{live_below}
use Rattle.store_core.proofs.FittingLemmas.{IfSome-from, IfSome-at, IsSomeAnd-at}
use Rattle.routing_walks.specs.declared.fault.Place.TheVariants as place
use Rattle.routing_walks.specs.Walks.{DataAlone, Leads, IsParent, IsOfType, IsRoot, Chain, stay, go}
use Rattle.routing_walks.specs.Regions.{IsPart, IsRest, IsApart}
use Rattle.routing_walks.specs.WellFormed.{Names, IsDataVar, VarHoldsLive, HoldsOfType, IsWellFormed}
use Rattle.routing_walks.specs.CutFaults.{IsSound}
use Rattle.routing_walks.proofs.LiveLemmas.{IsOfType-live, Leads-live}
use Rattle.routing_walks.proofs.FreshLemmas.{IsFresh-well_formed}
use Rattle.routing_walks.specs.Pieces.{value_on, piece_on}
use Rattle.routing_walks.specs.Hanging.{NamesRoots, IsTogether}
use Rattle.routing_walks.proofs.DecidedLemmas.{in_first, in_rest}
use Rattle.routing_walks.proofs.DecidedStores.{rest_of}
use Rattle.routing_walks.proofs.RegionLemmas.{part_apart, rest_apart, leads_off}
use Rattle.routing_walks.proofs.HangingLemmas.{no_parent}
use Rattle.routing_walks.proofs.PieceLemmas.{piece_on-IsOn, var_on}
use Rattle.routing_walks.proofs.PieceForms.{well_formed_on}
use Rattle.routing_walks.proofs.TogetherLemmas.{leads_from, sound_together}
use Rattle.store_logic.specs.Terms.{null}
use Rattle.store_logic.proofs.ExpandingLists.{slice_get-first, slice_get-later}
use Rattle.store_exec.specs.Steps.{variable}
use Rattle.pale_calls.specs.declared.actual.Actual.{Actual}
use Rattle.pale_calls.specs.declared.actual.Actual.TheVariants as actual
use Rattle.pale_calls.specs.declared.class.VarClass.TheVariants as class
use Rattle.pale_calls.specs.Classes.{class_of, holds_cell}
use Rattle.pale_typed.specs.declared.typed.CallParts.{CallParts}
use Rattle.pale_typed.specs.declared.typed.ProcEntry.{ProcEntry}
use Rattle.pale_typed.specs.Variables.{numbers}
use Rattle.pale_typed.specs.Fitting.{kind_at, IsLike}
use Rattle.hoare_split.specs.Picking.{class_at, is_data, is_pointer, is_listed, is_argument, is_spent}
use Rattle.hoare_split.specs.Calls.{handed_by}
use Rattle.hoare_split.proofs.FittingVariableLemmas.{same-var}
use Rattle.whole_run.specs.Handing.{rest_store, value_after, beside_rest}
use Rattle.whole_run.specs.Leaving.{CameOf}
use Rattle.whole_run.proofs.Zips.{zip_get, zip_first, numbers_at}
use Rattle.whole_run.proofs.Handed.{some_same, kind_entry, handed_at, on_cell, value_there}
use Rattle.whole_run.proofs.HandedRoots.{data_named, named_data, chain_root}
use Rattle.whole_run.proofs.Beside.{rest_out, rest_live, rest_piece, b, of_exit, of_rest, of_either, After, is_result, is_null, stays, after, holds_after}

-- ---- lists

pub listed_at : (us : List VarId) (v : VarId) → is_listed us v ≡ true → (k : ℕ) × (slice_get us k ≡ Some v)
listed_at [] v is = absurd (false≢true is)
listed_at (u ∷ us) v is = by (listed_at us v) (u.0 == v.0) refl is
  where
    by : (is_listed us v ≡ true → (k : ℕ) × (slice_get us k ≡ Some v)) → (z : Bool) → (u.0 == v.0) ≡ z → (z || is_listed us v) ≡ true →
        (k : ℕ) × (slice_get (u ∷ us) k ≡ Some v)
    by later true same among = (0, ap (λ x. Some x) (same-var u v same))
    by later false same among = let h = later among in (suc h.0, h.1)

self : (n : ℕ) → (n == n) ≡ true
self n = grind arith

or_right : (x y : Bool) → y ≡ true → (x || y) ≡ true
or_right true y is = refl
or_right false y is = is

pub at_listed : (us : List VarId) (k : ℕ) (v : VarId) → slice_get us k ≡ Some v → is_listed us v ≡ true
at_listed [] k v at = absurd cc
at_listed (u ∷ us) zero v at =
    let same : u ≡ v = some_same u v at in
    ap (λ z. z || is_listed us v) (subst (λ (w : VarId). (u.0 == w.0) ≡ true) same (self u.0))
at_listed (u ∷ us) (suc k) v at = or_right (u.0 == v.0) (is_listed us v) (at_listed us k v at)

pub at_argument : (args : List Actual) (k : ℕ) (w : VarId) → slice_get args k ≡ Some (actual.Var w) → is_argument args w ≡ true
at_argument [] k w at = absurd cc
at_argument (a ∷ args) zero w at =
    let same : a ≡ actual.Var w = some_same a (actual.Var w) at in
    subst (λ (x : Actual). is_argument (x ∷ args) w ≡ true) (sym same) (ap (λ z. z || is_argument args w) (self w.0))
at_argument (actual.Var v ∷ args) (suc k) w at = or_right (v.0 == w.0) (is_argument args w) (at_argument args k w at)
at_argument (actual.Null ∷ args) (suc k) w at = at_argument args k w at
at_argument (actual.Truth truth ∷ args) (suc k) w at = at_argument args k w at

pub listed_argument : (args : List Actual) (v : VarId) → is_argument args v ≡ true → (k : ℕ) × (slice_get args k ≡ Some (actual.Var v))
listed_argument [] v is = absurd (false≢true is)
listed_argument (actual.Null ∷ args) v is = let h = listed_argument args v is in (suc h.0, h.1)
listed_argument (actual.Truth truth ∷ args) v is = let h = listed_argument args v is in (suc h.0, h.1)
listed_argument (actual.Var w ∷ args) v is = by (listed_argument args v) (w.0 == v.0) refl is
  where
    by : (is_argument args v ≡ true → (k : ℕ) × (slice_get args k ≡ Some (actual.Var v))) → (z : Bool) → (w.0 == v.0) ≡ z → (z || is_argument args v) ≡ true →
        (k : ℕ) × (slice_get (actual.Var w ∷ args) k ≡ Some (actual.Var v))
    by later true same among = (0, ap (λ (y : VarId). Some (actual.Var y)) (same-var w v same))
    by later false same among = let h = later among in (suc h.0, h.1)

pub none_live : (o : Option CellEntry) → (IsSome o → ⊥) → o ≡ None
none_live None dead = refl
none_live (Some cell) dead = absurd (dead refl)

-- a data variable among the arguments is handed over
pub argument_handed : (vars : List VarEntry) (args : List Actual) (v : VarId) → is_argument args v ≡ true → is_data (class_at vars v) ≡ true →
    Contains (handed_by vars args) v
argument_handed vars [] v is held = absurd (false≢true is)
argument_handed vars (actual.Null ∷ args) v is held = argument_handed vars args v is held
argument_handed vars (actual.Truth truth ∷ args) v is held = argument_handed vars args v is held
argument_handed vars (actual.Var w ∷ args) v is held = by (λ more. argument_handed vars args v more held) (w.0 == v.0) refl is
  where
    behind : (z : Bool) → Contains (handed_by vars args) v → Contains (if z then w ∷ handed_by vars args else handed_by vars args) v
    behind true m = in_rest w v (handed_by vars args) m
    behind false m = m

    by : (is_argument args v ≡ true → Contains (handed_by vars args) v) → (z : Bool) → (w.0 == v.0) ≡ z → (z || is_argument args v) ≡ true →
        Contains (handed_by vars (actual.Var w ∷ args)) v
    by later true same among =
        let e : w ≡ v = same-var w v same in
        subst (λ (z : Bool). Contains (if z then w ∷ handed_by vars args else handed_by vars args) v)
        (sym (subst (λ (u : VarId). is_data (class_at vars u) ≡ true) (sym e) held)) (subst (λ (u : VarId). Contains (w ∷ handed_by vars args) u) e
        (in_first w (handed_by vars args)))
    by later false same among = behind (is_data (class_at vars w)) (later among)

-- a variable stands at one place of a list
pub one_place : (us : List VarId) (k j : ℕ) (v : VarId) → AllPairs (λ (u w : VarId). u ≢ w) us → slice_get us k ≡ Some v → slice_get us j ≡ Some v → k ≡ j
one_place [] k j v once one other = absurd cc
one_place (u ∷ us) zero zero v once one other = refl
one_place (u ∷ us) zero (suc j) v once one other = absurd (again u us j v once one other)
  where
    again : (u : VarId) (us : List VarId) (j : ℕ) (v : VarId) → AllPairs (λ (x w : VarId). x ≢ w) (u ∷ us) → Some u ≡ Some v → slice_get us j ≡ Some v → ⊥
    again u us j v once one other =
        once 0 (suc j) v (omega arith) (let low = slice_get_within us j v other in omega (arith, low))
        (some_same u v one ∙ sym (get_or_from_slice_get us j v v other))
one_place (u ∷ us) (suc k) zero v once one other = absurd (again u us k v once other one)
  where
    again : (u : VarId) (us : List VarId) (j : ℕ) (v : VarId) → AllPairs (λ (x w : VarId). x ≢ w) (u ∷ us) → Some u ≡ Some v → slice_get us j ≡ Some v → ⊥
    again u us j v once one other =
        once 0 (suc j) v (omega arith) (let low = slice_get_within us j v other in omega (arith, low))
        (some_same u v one ∙ sym (get_or_from_slice_get us j v v other))
one_place (u ∷ us) (suc k) (suc j) v once one other =
    ap suc (one_place us k j v (λ m n d low high. once (suc m) (suc n) d (omega (arith, low)) (omega (arith, high))) one other)

-- ---- values

pub variable_some : (s : StoreMap) (v : VarId) (c : CellId) → variable s v ≡ value.Cell (Some c) → var_value s v ≡ Some (value.Cell (Some c))
variable_some s v c is = of (var_value s v) is
  where
    of : (o : Option Value) → unwrap_or o null ≡ value.Cell (Some c) → o ≡ Some (value.Cell (Some c))
    of None e = let no : None ≡ Some c = cc in absurd cc
    of (Some x) e = ap (λ y. Some y) e

pub some_variable : (s : StoreMap) (v : VarId) (x : Value) → var_value s v ≡ Some x → variable s v ≡ x
some_variable s v x is = ap (λ o. unwrap_or o null) is

pub no_argument : (h a l : Bool) → h ≡ true → l ≡ false → ((h && a) && not l) ≡ false → a ≡ false
no_argument true true true hi lo is = absurd (false≢true (sym lo))
no_argument true true false hi lo is = absurd (false≢true (sym is))
no_argument true false l hi lo is = refl
no_argument false a l hi lo is = absurd (false≢true hi)

pub spent_cell : (h a l : Bool) → ((h && a) && not l) ≡ true → h ≡ true
spent_cell true a l is = refl
spent_cell false a l is = is

pub an_argument : (h a l : Bool) → ((h && a) && not l) ≡ true → a ≡ true
an_argument true true l is = refl
an_argument true false l is = is
an_argument false a l is = absurd (false≢true is)

pub chain_end : (s : StoreMap) (P : CellId → CellId → Type 0) {a c : CellId} → Chain s P a c → (a ≡ c) ⊎ ((x : CellId) × P x c)
chain_end s P (stay a live) = inl refl
chain_end s P (go a x c step rest) = elim (chain_end s P rest) [ inl e ↦ inr (a, subst (P a) e step) | inr h ↦ inr h ]

pub data_holds : (kind : VarKind) → IsDataVar kind → holds_cell (class_of kind) ≡ true
data_holds var.Bool h = absurd h
data_holds (var.Data ty) h = refl
data_holds (var.Pointer ty) h = absurd h
data_holds (var.LogicSet ty) h = absurd h
data_holds var.LogicBool h = absurd h

pub data_is : (kind : VarKind) → IsDataVar kind → is_data (class_of kind) ≡ true
data_is var.Bool h = absurd h
data_is (var.Data ty) h = refl
data_is (var.Pointer ty) h = absurd h
data_is (var.LogicSet ty) h = absurd h
data_is var.LogicBool h = absurd h

pub class_kind : (vars : List VarEntry) (v : VarId) (kind : VarKind) → kind_at vars v ≡ Some kind → class_at vars v ≡ class_of kind
class_kind vars v kind is =
    let e = kind_entry vars v kind is in
    ap (λ (o : Option VarEntry). option_map_or (λ (e : VarEntry). class_of e.kind) o class.Bool) e.1 ∙ ap class_of e.2
