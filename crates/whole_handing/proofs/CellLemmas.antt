-- The cells that are kept of a store.
use Rattle.std.proofs.Common.{◌≡◌, ◌↔◌, ℕ, Bool, true, false, cond, List, [], ◌∷◌, IsTrue, Option, Some, None, refl, sym, ap, ◌∙◌}
use Rattle.std.specs.Prelude.{Contains}
use Rattle.std.specs.List.{filter}
use Rattle.std.specs.Ordering.{nat_cmp, eq_by_cmp}
use Rattle.std.specs.FinMap.{entries, from_sorted, retain_keys, find, get-from_sorted, get-retain_keys, get-entries, same_map, nat_cmp-IsAntisymmetric}
use Rattle.std.proofs.lemmas.Bool.{false≢true}
use Rattle.std.proofs.lemmas.Cmp.{nat_cmp_total}
use Rattle.store_core.specs.declared.ids.CellId.{CellId}
use Rattle.store_core.specs.declared.store.CellBody.{CellBody}
use Rattle.store_core.specs.Stores.{StoreMap, CellEntry}
use Rattle.store_core.specs.StoreBodies.{cells_of, AreInOrder}
use Rattle.store_core.proofs.AboveLemmas.{tied}
use Rattle.store_core.proofs.Cells.{sorted_cells}
use Rattle.routing_walks.specs.Regions.{has_number}
use Rattle.routing_walks.proofs.RegionLemmas.{number_in, number_out}

-- a test that passes the members says which numbers are those of one of the cells
pub member_is : (cells : List CellId) (number : ℕ) (b : Bool) → (IsTrue b ↔ Contains cells (record { 0 = number })) → b ≡ has_number cells number
member_is cells number true h = sym (number_in cells (record { 0 = number }) (h.0 refl))
member_is cells number false h = sym (number_out cells (record { 0 = number }) (λ m. false≢true (h.1 m)))

-- ---- the map of those that pass a test

nothing : (t : Bool) (o : Option CellEntry) → o ≡ cond t o o
nothing true o = refl
nothing false o = refl

find_step : (test : ℕ → Bool) (e : ℕ × CellEntry) (es : List (ℕ × CellEntry)) (q : ℕ) →
    find nat_cmp q (filter (λ d. test d.0) es) ≡ cond (test q) (find nat_cmp q es) None → (t here : Bool) →
    test e.0 ≡ t → eq_by_cmp nat_cmp q e.0 ≡ here →
    find nat_cmp q (cond t (e ∷ filter (λ d. test d.0) es) (filter (λ d. test d.0) es))
    ≡ cond (test q) (cond here (Some e.1) (find nat_cmp q es)) None
find_step test e es q rest true true is same =
    ap (λ x. cond x (Some e.1) (find nat_cmp q (filter (λ d. test d.0) es))) same
    ∙ sym (ap (λ x. cond x (Some e.1) None) (ap test (tied q e.0 same) ∙ is))
find_step test e es q rest true false is apart =
    ap (λ x. cond x (Some e.1) (find nat_cmp q (filter (λ d. test d.0) es))) apart ∙ rest
find_step test e es q rest false true is same =
    rest ∙ ap (λ x. cond x (find nat_cmp q es) None) (ap test (tied q e.0 same) ∙ is)
    ∙ sym (ap (λ x. cond x (Some e.1) None) (ap test (tied q e.0 same) ∙ is))
find_step test e es q rest false false is apart = rest

find_filter : (test : ℕ → Bool) (es : List (ℕ × CellEntry)) (q : ℕ) →
    find nat_cmp q (filter (λ e. test e.0) es) ≡ cond (test q) (find nat_cmp q es) None
find_filter test [] q = nothing (test q) None
find_filter test (e ∷ es) q = find_step test e es q (find_filter test es q) (test e.0) (eq_by_cmp nat_cmp q e.0) refl refl

-- cells in order that show the entries that pass make the map of these numbers
pub retained : (kept : List CellBody) (s : StoreMap) (test : ℕ → Bool) → cells_of kept ≡ filter (λ e. test e.0) (entries s.cells) → AreInOrder kept →
    from_sorted {R = nat_cmp} (cells_of kept) ≡ retain_keys s.cells test
retained kept s test is rising =
    same_map nat_cmp_total nat_cmp-IsAntisymmetric _ _ (λ q.
    get-from_sorted nat_cmp (cells_of kept) q (sorted_cells kept rising)
    ∙ ap (find nat_cmp q) is
    ∙ find_filter test (entries s.cells) q
    ∙ ap (λ o. cond (test q) o None) (sym (get-entries s.cells q))
    ∙ sym (get-retain_keys s.cells test q (λ x e. ap test (sym (nat_cmp-IsAntisymmetric q x e)))))
