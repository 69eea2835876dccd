-- The claims after a return: the callee's `post` on the returned part, and `keep` on the rest.
use Rattle.std.proofs.Common.{◌≡◌, ◌≢◌, ◌↔◌, ◌<◌, ◌+◌, inl, inr, ℕ, Bool, true, false, cond, not, IsTrue, List, [], ◌∷◌, ◌++◌, map, filter, length, slice_get}
use Rattle.std.proofs.Common.{Option, Some, None, IsSome, IsSomeAnd, IfSome, Contains, All, unwrap_or, is_some, refl, sym, ap, ap₂, ◌∙◌, subst, arith}
use Rattle.std.specs.Prelude.{option_map}
use Rattle.std.specs.List.{AllByRecursion, AllZip, AllPairs}
use Rattle.std.specs.Option.{option_map_or}
use Rattle.std.specs.Ordering.{nat_cmp}
use Rattle.std.specs.Cmp.{nat_cmp_total}
use Rattle.std.specs.FinMap.{FinMap, get, same_map, nat_cmp-IsAntisymmetric}
use Rattle.std.proofs.lemmas.Bool.{false≢true}
use Rattle.std.proofs.lemmas.List.Elements.{All-contains, All-from_recursion, recursion_from_All}
use Rattle.store_core.specs.declared.ids.TypeId.{TypeId}
use Rattle.store_core.specs.declared.ids.VarId.{VarId}
use Rattle.store_core.specs.declared.ids.CellId.{CellId}
use Rattle.store_core.specs.declared.kind.VarKind.{VarKind}
use Rattle.store_core.specs.declared.kind.VarKind.TheVariants as var
use Rattle.store_core.specs.declared.value.Value.{Value}
use Rattle.store_core.specs.declared.value.Value.TheVariants as value
use Rattle.store_core.specs.Tables.{TypeEntry, VarEntry, var_at}
use Rattle.store_core.specs.Stores.{StoreMap, CellEntry, IsLive, cell_of, var_value, VarFits, Fits}
use Rattle.store_core.proofs.AboveLemmas.{live_below}
use Rattle.store_core.proofs.FittingLemmas.{IfSome-at}
use Rattle.routing_walks.specs.Walks.{IsOfType}
use Rattle.routing_walks.specs.Sets.{Lists}
use Rattle.routing_walks.specs.Regions.{has_number, store_on, IsPart, IsRest}
use Rattle.routing_walks.specs.Reaching.{IsUnreached}
use Rattle.routing_walks.specs.WellFormed.{SetHoldsLive, IsWellFormed}
use Rattle.routing_walks.proofs.LiveLemmas.{IsOfType-live}
use Rattle.routing_walks.specs.Pieces.{value_on}
use Rattle.routing_walks.proofs.DecidedLemmas.{decided_in}
use Rattle.routing_walks.proofs.DecidedWalks.{decided_same_cell}
use Rattle.routing_walks.proofs.RegionLemmas.{store_on-IsOn, number_in, live_on}
use Rattle.store_logic.specs.Terms.{null, outside, cell_in, live_value, set_in}
use Rattle.store_logic.specs.Satisfaction.{SatAll}
use Rattle.store_logic.specs.Sorts.{Sort, var_sort}
use Rattle.store_logic.proofs.SameLemmas.{itself}
use Rattle.store_exec.specs.Steps.{variable}
use Rattle.store_exec.specs.Restricted.{live_part, restricted}
use Rattle.pale_calls.specs.declared.actual.Actual.{Actual}
use Rattle.pale_calls.specs.declared.actual.Actual.TheVariants as actual
use Rattle.pale_calls.specs.Classes.{class_of, holds_cell, is_logic}
use Rattle.pale_typed.specs.declared.typed.CallParts.{CallParts}
use Rattle.pale_typed.specs.declared.typed.ProcEntry.{ProcEntry}
use Rattle.pale_typed.specs.Fitting.{kind_at, IsLogicVariable, IsProgramVariable}
use Rattle.whole_run.proofs.Handed.{some_same, kind_entry, value_there}
use Rattle.whole_run.proofs.HandedStart.{left_in, kept_in}
use Rattle.whole_run.proofs.Holding.{Alike}

-- ---- values

pub alike_same : (p : StoreMap) (x : Value) → Alike p x x
alike_same p x = record { cells = refl; truths = refl; sets = λ c live. itself }

-- a program variable holds no set
pub program_part : (s own : StoreMap) (kind : VarKind) (y : Value) → IsTrue (not (is_logic (class_of kind))) → VarFits own kind y → live_part s y ≡ y
program_part s own kind (value.Bool b) known fits = refl
program_part s own kind (value.Cell c) known fits = refl
program_part s own var.Bool (value.Cells cs) known fits = absurd fits
program_part s own (var.Data ty) (value.Cells cs) known fits = absurd fits
program_part s own (var.Pointer ty) (value.Cells cs) known fits = absurd fits
program_part s own (var.LogicSet ty) (value.Cells cs) known fits = absurd (false≢true known)
program_part s own var.LogicBool (value.Cells cs) known fits = absurd (false≢true known)

pub bool_part : (s : StoreMap) (y : Value) (b : Bool) → live_part s y ≡ value.Bool b → y ≡ value.Bool b
bool_part s (value.Bool truth) b e = e
bool_part s (value.Cell c) b e = absurd cc
bool_part s (value.Cells cs) b e = absurd cc

cells_same : (xs ys : List CellId) → value.Cells xs ≡ value.Cells ys → xs ≡ ys
cells_same xs ys e = cc

pub set_part : (s : StoreMap) (y : Value) (zs : List CellId) → live_part s y ≡ value.Cells zs →
    (xs : List CellId) × (y ≡ value.Cells xs) × (filter (λ (c : CellId). is_some (cell_of s c)) xs ≡ zs)
set_part s (value.Bool truth) zs e = absurd cc
set_part s (value.Cell c) zs e = absurd cc
set_part s (value.Cells cs) zs e = (cs, refl, cells_same _ zs e)

-- ---- a logic variable: what the caller's holds after the call, and what the callee's holds at its exit

module _ (r : StoreMap) (cells : List CellId) (x u' p : StoreMap) (live_same : (c : CellId) → IsLive p c → IsLive x c × IsLive u' c)
    (handed : (c : CellId) → IsLive x c → IsLive r c → Contains cells c) where
  abbrev hn : CellId → Bool
  hn c = has_number cells c.0

  alike_sets : (ty : TypeId) (cs : List CellId) (y : Value) → AllByRecursion (IsOfType r ty) cs → (types : List TypeEntry) →
      live_part x y ≡ value.Cells (filter (λ (c : CellId). is_some (cell_of x c)) (filter hn cs)) →
      Alike p (value.Cells (filter (λ (c : CellId). is_some (cell_of u' c)) cs)) y
  alike_sets ty cs y all types e =
      let got = set_part x y (filter (λ (c : CellId). is_some (cell_of x c)) (filter hn cs)) e in
      subst (Alike p (value.Cells (filter (λ (c : CellId). is_some (cell_of u' c)) cs))) (sym got.1) (record {
        cells = refl;
        truths = refl;
        sets = λ c live. let both = live_same c live in (
          λ m.
              let own = left_in (λ (d : CellId). is_some (cell_of u' d)) cs c m in
              let here = IsOfType-live types r ty c (All-contains (IsOfType r ty) cs c (All-from_recursion (IsOfType r ty) cs all) own) in
              left_in (λ (d : CellId). is_some (cell_of x d)) got.0 c
              (subst (λ (l : List CellId). Contains l c) (sym got.2)
              (kept_in (λ (d : CellId). is_some (cell_of x d)) (filter hn cs) c both.0
              (kept_in hn cs c (number_in cells c (handed c both.0 here)) own))),
          λ m. kept_in (λ (d : CellId). is_some (cell_of u' d)) cs c both.1
              (left_in hn cs c (left_in (λ (d : CellId). is_some (cell_of x d)) (filter hn cs) c
              (subst (λ (l : List CellId). Contains l c) got.2 (kept_in (λ (d : CellId). is_some (cell_of x d)) got.0 c both.0 m)))),
        );
      })

  pub alike_logic : (types : List TypeEntry) (kind : VarKind) (y0 y : Value) → IsTrue (is_logic (class_of kind)) → VarFits r kind y0 → SetHoldsLive r kind
      y0 →
      live_part x y ≡ live_part x (value_on cells y0) → Alike p (live_part u' y0) y
  alike_logic types var.Bool y0 y logic fits sets e = absurd (false≢true logic)
  alike_logic types (var.Data ty) y0 y logic fits sets e = absurd (false≢true logic)
  alike_logic types (var.Pointer ty) y0 y logic fits sets e = absurd (false≢true logic)
  alike_logic types (var.LogicSet ty) (value.Bool b) y logic fits sets e = absurd fits
  alike_logic types (var.LogicSet ty) (value.Cell c) y logic fits sets e = absurd fits
  alike_logic types (var.LogicSet ty) (value.Cells cs) y logic fits sets e = alike_sets ty cs y (recursion_from_All (IsOfType r ty) cs sets) types e
  alike_logic types var.LogicBool (value.Bool b) y logic fits sets e = subst (Alike p (value.Bool b)) (sym (bool_part x y b e)) (alike_same p (value.Bool b))
  alike_logic types var.LogicBool (value.Cell c) y logic fits sets e = absurd fits
  alike_logic types var.LogicBool (value.Cells cs) y logic fits sets e = absurd fits

-- ---- on the rest

pub alike_rest : (s u' : StoreMap) (others : List CellId) → ((c : CellId) → IsLive (store_on s others) c → IsLive u' c) → (y : Value) →
    Alike (store_on s others) y (live_part u' (live_part s y))
alike_rest s u' others alive (value.Bool b) = alike_same (store_on s others) (value.Bool b)
alike_rest s u' others alive (value.Cell c) = alike_same (store_on s others) (value.Cell c)
alike_rest s u' others alive (value.Cells cs) = record {
  cells = refl;
  truths = refl;
  sets = λ c live. (
    λ m. kept_in (λ (d : CellId). is_some (cell_of u' d)) (filter (λ (d : CellId). is_some (cell_of s d)) cs) c (alive c live)
        (kept_in (λ (d : CellId). is_some (cell_of s d)) cs c (live_on others s (store_on s others) (store_on-IsOn s others) c live).1 m),
    λ m. left_in (λ (d : CellId). is_some (cell_of s d)) cs c
        (left_in (λ (d : CellId). is_some (cell_of u' d)) (filter (λ (d : CellId). is_some (cell_of s d)) cs) c m),
  );
}

-- ---- stores with the same cells

pub same_cells : (s t : StoreMap) → ((c : CellId) → cell_of s c ≡ cell_of t c) → s.cells ≡ t.cells
same_cells s t each = same_map nat_cmp_total nat_cmp-IsAntisymmetric s.cells t.cells (λ n. each (record { 0 = n }))
