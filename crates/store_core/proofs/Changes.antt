-- What a change of the kept cells does to the finite map that they stand for.
use Rattle.std.proofs.Common.{◌≡◌, ℕ, zero, suc, ◌+◌, ◌<◌, Bool, true, false, cond, List, [], ◌∷◌, ◌++◌, length, set, Option, Some, None, refl, sym}
use Rattle.std.proofs.Common.{ap, ◌∙◌, subst, arith, slice_get, IsSomeAnd}
use Rattle.std.specs.Option.{option_map, option_and_then}
use Rattle.std.specs.List.{AllByRecursion, remove}
use Rattle.std.specs.Ordering.{nat_cmp, eq_by_cmp, is_eq}
use Rattle.std.proofs.lemmas.Cmp.{nat_cmp_total}
use Rattle.std.proofs.lemmas.List.{map_push, length-map}
use Rattle.std.proofs.lemmas.Option.{slice_get-map, slice_get_within}
use Rattle.std.specs.FinMap.Entries.{by_order}
use Rattle.std.specs.FinMap.{entries, insert, from_sorted, find, put, get-from_sorted, get-remove, entries-insert, same_entries_map, same_map}
use Rattle.std.specs.FinMap.{nat_cmp-IsAntisymmetric}
use Rattle.std.specs.FinMap as fin
use Rattle.store_core.specs.declared.ids.CellId.{CellId}
use Rattle.store_core.specs.declared.ids.FieldId.{FieldId}
use Rattle.store_core.specs.declared.store.CellBody.{CellBody}
use Rattle.store_core.specs.declared.value.Value.{Value}
use Rattle.store_core.specs.Stores.{StoreMap, CellEntry, cell_of, field_of}
use Rattle.store_core.specs.StoreBodies.{cell_entry, cells_of, AreInOrder, store_of, IsKept}
use Rattle.store_core.proofs.Bodies.{AllByRecursion-at}
use Rattle.store_core.proofs.Adding.{at_known}
use Rattle.store_core.proofs.Growing.{AllByRecursion-push, AllByRecursion-weaker}
use Rattle.store_core.proofs.AboveLemmas.{tied}
use Rattle.store_core.proofs.Cells.{less_cmp, same_cmp, more_cmp, sorted_cells, entries_of-cells}

-- ---- the cell at a place

-- a field that has a value has a place among the cell's values
pub field_within : (s : StoreMap) (c : CellId) (f : FieldId) (cell : CellEntry) (P : Value → Type 0) → cell_of s c ≡ Some cell →
    IsSomeAnd (option_and_then (λ e. field_of e f) (cell_of s c)) P → f.index < length cell.values
field_within s c f cell P is some =
    by _ (slice_get cell.values f.index) refl (subst (λ (o : Option CellEntry). IsSomeAnd (option_and_then (λ e. field_of e f) o) P) is some)
  where
    by : (b : Bool) (o : Option (Option Value)) → slice_get cell.values f.index ≡ o →
        IsSomeAnd (cond b (option_and_then (λ v. v) o) None) P → f.index < length cell.values
    by true None e some = absurd some
    by false None e some = absurd some
    by b (Some v) e some = slice_get_within cell.values f.index v e

-- ---- a cell more

put_last : (k : ℕ) (v : CellEntry) (bodies : List CellBody) → AllByRecursion (λ b. b.number < k) bodies →
    put nat_cmp k v (cells_of bodies) ≡ cells_of bodies ++ (k, v) ∷ []
put_last k v [] below = refl
put_last k v (b ∷ bodies) below =
    ap (λ o. by_order o ((k, v) ∷ cells_of (b ∷ bodies)) ((b.number, v) ∷ cells_of bodies)
    (cell_entry b ∷ put nat_cmp k v (cells_of bodies))) (more_cmp k b.number below.0)
    ∙ ap (λ rest. cell_entry b ∷ rest) (put_last k v bodies below.1)

order-push : (bodies : List CellBody) (b : CellBody) → AreInOrder bodies → AllByRecursion (λ a. a.number < b.number) bodies → AreInOrder (bodies ++ b ∷ [])
order-push [] b order below = (tt, tt)
order-push (a ∷ bodies) b order below = (AllByRecursion-push (λ d. a.number < d.number) bodies b order.0 below.0, order-push bodies b order.1 below.1)

pub IsKept-push : (bodies : List CellBody) (b : CellBody) (next : ℕ) → IsKept bodies next → b.number ≡ next → IsKept (bodies ++ b ∷ []) (next + 1)
IsKept-push bodies b next kept is = record {
  rising = order-push bodies b kept.rising (AllByRecursion-weaker _ _ (λ a lt. let below : a.number < next = lt in omega arith) bodies kept.below);
  below = AllByRecursion-push _ bodies b (AllByRecursion-weaker _ _ (λ a lt. let below : a.number < next = lt in omega arith) bodies kept.below) (omega arith);
}

pub cells-push : (bodies : List CellBody) (b : CellBody) (next : ℕ) → IsKept bodies next → b.number ≡ next
    → from_sorted {R = nat_cmp} (cells_of (bodies ++ b ∷ [])) ≡ insert (from_sorted (cells_of bodies)) next (cell_entry b).1
cells-push bodies b next kept is =
    same_entries_map _ _ (entries_of-cells (bodies ++ b ∷ []) (IsKept-push bodies b next kept is).rising
    ∙ map_push cell_entry bodies b ∙ ap (λ n. cells_of bodies ++ (n, (cell_entry b).1) ∷ []) is
    ∙ sym (put_last next (cell_entry b).1 bodies kept.below)
    ∙ ap (put nat_cmp next (cell_entry b).1) (sym (entries_of-cells bodies kept.rising))
    ∙ sym (entries-insert nat_cmp_total (from_sorted (cells_of bodies)) next (cell_entry b).1))

-- ---- a cell changed

all-set : (P : ℕ → Type 0) (bodies : List CellBody) (i : ℕ) (b after : CellBody) → slice_get bodies i ≡ Some b →
    after.number ≡ b.number → AllByRecursion (λ d. P d.number) bodies → AllByRecursion (λ d. P d.number) (set bodies i after)
all-set P [] i b after at same all = tt
all-set P (a ∷ bodies) zero b after at same all = let is : a ≡ b = cc in (subst P (ap (λ (e : CellBody). e.number) is ∙ sym same) all.0, all.1)
all-set P (a ∷ bodies) (suc i) b after at same all = (all.0, all-set P bodies i b after at same all.1)

pub order-set : (bodies : List CellBody) (i : ℕ) (b after : CellBody) → slice_get bodies i ≡ Some b → after.number ≡ b.number →
    AreInOrder bodies → AreInOrder (set bodies i after)
order-set [] i b after at same order = tt
order-set (a ∷ bodies) zero b after at same order =
    let is : a ≡ b = cc in
    (subst (λ n. AllByRecursion (λ (d : CellBody). n < d.number) bodies) (ap (λ (e : CellBody). e.number) is ∙ sym same) order.0, order.1)
order-set (a ∷ bodies) (suc i) b after at same order =
    (all-set (λ n. a.number < n) bodies i b after at same order.0, order-set bodies i b after at same order.1)

pub IsKept-set : (bodies : List CellBody) (i : ℕ) (b after : CellBody) (next : ℕ) → slice_get bodies i ≡ Some b →
    after.number ≡ b.number → IsKept bodies next → IsKept (set bodies i after) next
IsKept-set bodies i b after next at same kept =
    record { rising = order-set bodies i b after at same kept.rising; below = all-set (λ n. n < next) bodies i b after at same kept.below }

-- ---- cells that stand behind

pub find_above : (q : ℕ) (bodies : List CellBody) → AllByRecursion (λ d. q < d.number) bodies → find nat_cmp q (cells_of bodies) ≡ None
find_above q [] above = refl
find_above q (b ∷ bodies) above =
    ap (λ o. cond (is_eq o) (Some (cell_entry b).1) (find nat_cmp q (cells_of bodies))) (less_cmp q b.number above.0) ∙ find_above q bodies above.1
