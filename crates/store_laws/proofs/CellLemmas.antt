-- The cells of a store after each change.
use Rattle.std.proofs.Common.{◌≡◌, ◌≢◌, ◌⊎◌, ℕ, cond, List, [], ◌∷◌, set, suc, zero, Option, Some, None, refl, ap, ◌∙◌, slice_get, inl, inr}
use Rattle.std.specs.Option.{option_map_or}
use Rattle.std.specs.Ordering.{nat_cmp}
use Rattle.std.proofs.lemmas.Bool.{cases_eq}
use Rattle.std.proofs.lemmas.Cmp.{nat_cmp_total}
use Rattle.std.specs.FinMap.{FinMap, get, get-insert, get-remove}
use Rattle.std.specs.FinMap as fin
use Rattle.store_core.specs.declared.ids.CellId.{CellId}
use Rattle.store_core.specs.declared.ids.FieldId.{FieldId}
use Rattle.store_core.specs.declared.ids.VariantId.{VariantId}
use Rattle.store_core.specs.declared.value.Value.{Value}
use Rattle.store_core.specs.Tables.{TypeEntry}
use Rattle.store_core.specs.Stores.{StoreMap, CellEntry, cell_of, blank_cell, put_cell, with_field, set_field, remove_cell}
use Rattle.store_core.proofs.AboveLemmas.{ties, differs}
use Rattle.store_laws.specs.Changed.{next_cell}

-- two cells are one or they are apart
pub cell_cases : (c d : CellId) → (c ≡ d) ⊎ (c ≢ d)
cell_cases c d = elim (cases_eq c.0 d.0) [
  | inl same ↦ inl (ap (λ (n : ℕ). record { 0 = n }) same)
  | inr apart ↦ inr (λ e. apart (ap (λ (x : CellId). x.0) e))
]

-- cells that are apart have numbers that are
pub numbers_apart : (c d : CellId) → c ≢ d → c.0 ≢ d.0
numbers_apart c d apart same = apart (ap (λ (n : ℕ). record { 0 = n }) same)

module _ {X : Type 0} (m : FinMap nat_cmp X) (k : ℕ) where
  pub insert_here : (x : X) → get (fin.insert m k x) k ≡ Some x
  insert_here x = get-insert nat_cmp_total m k x k ∙ ap (λ t. cond t (Some x) (get m k)) (ties k k refl)

  pub insert_elsewhere : (x : X) (q : ℕ) → q ≢ k → get (fin.insert m k x) q ≡ get m q
  insert_elsewhere x q apart = get-insert nat_cmp_total m k x q ∙ ap (λ t. cond t (Some x) (get m q)) (differs q k apart)

  pub remove_here : get (fin.remove m k) k ≡ None
  remove_here = get-remove nat_cmp_total m k k ∙ ap (λ t. cond t None (get m k)) (ties k k refl)

  pub remove_elsewhere : (q : ℕ) → q ≢ k → get (fin.remove m k) q ≡ get m q
  remove_elsewhere q apart = get-remove nat_cmp_total m k q ∙ ap (λ t. cond t None (get m q)) (differs q k apart)

-- ---- a cell more

module _ (types : List TypeEntry) (s : StoreMap) (v : VariantId) where
  pub put_here : cell_of (put_cell s types v) (next_cell s) ≡ Some (blank_cell types v)
  put_here = insert_here s.cells s.next (blank_cell types v)

  pub put_elsewhere : (d : CellId) → d ≢ next_cell s → cell_of (put_cell s types v) d ≡ cell_of s d
  put_elsewhere d apart = insert_elsewhere s.cells s.next (blank_cell types v) d.0 (numbers_apart d (next_cell s) apart)

-- ---- a field changed

module _ (s : StoreMap) (c : CellId) (f : FieldId) (x : Value) where
  -- the cells are those of before but for the one
  pub set_cells : (cell : CellEntry) → cell_of s c ≡ Some cell → (set_field s c f x).cells ≡ fin.insert s.cells c.0 (with_field cell f x)
  set_cells cell is = ap (λ (o : Option CellEntry). option_map_or (λ e. fin.insert s.cells c.0 (with_field e f x)) o s.cells) is

  pub set_nothing : cell_of s c ≡ None → (set_field s c f x).cells ≡ s.cells
  set_nothing dead = ap (λ (o : Option CellEntry). option_map_or (λ e. fin.insert s.cells c.0 (with_field e f x)) o s.cells) dead

  pub set_here : (cell : CellEntry) → cell_of s c ≡ Some cell → cell_of (set_field s c f x) c ≡ Some (with_field cell f x)
  set_here cell is = ap (λ m. get m c.0) (set_cells cell is) ∙ insert_here s.cells c.0 (with_field cell f x)

  pub set_elsewhere : (d : CellId) → d ≢ c → cell_of (set_field s c f x) d ≡ cell_of s d
  set_elsewhere d apart = by (cell_of s c) refl
    where
      by : (o : Option CellEntry) → cell_of s c ≡ o → cell_of (set_field s c f x) d ≡ cell_of s d
      by None is = ap (λ m. get m d.0) (set_nothing is)
      by (Some cell) is = ap (λ m. get m d.0) (set_cells cell is) ∙ insert_elsewhere s.cells c.0 (with_field cell f x) d.0 (numbers_apart d c apart)

-- ---- a cell less

module _ (s : StoreMap) (c : CellId) where
  pub gone_here : cell_of (remove_cell s c) c ≡ None
  gone_here = remove_here s.cells c.0

  pub gone_elsewhere : (d : CellId) → d ≢ c → cell_of (remove_cell s c) d ≡ cell_of s d
  gone_elsewhere d apart = remove_elsewhere s.cells c.0 d.0 (numbers_apart d c apart)

-- ---- lists with one element changed

pub get-set_here : {X : Type 0} (xs : List X) (i : ℕ) (x y : X) → slice_get xs i ≡ Some y → slice_get (set xs i x) i ≡ Some x
get-set_here [] i x y at = absurd (cc)
get-set_here (z ∷ xs) zero x y at = refl
get-set_here (z ∷ xs) (suc i) x y at = get-set_here xs i x y at

pub get-set_elsewhere : {X : Type 0} (xs : List X) (i j : ℕ) (x : X) → j ≢ i → slice_get (set xs i x) j ≡ slice_get xs j
get-set_elsewhere [] i j x apart = refl
get-set_elsewhere (z ∷ xs) zero zero x apart = absurd (apart refl)
get-set_elsewhere (z ∷ xs) zero (suc j) x apart = refl
get-set_elsewhere (z ∷ xs) (suc i) zero x apart = refl
get-set_elsewhere (z ∷ xs) (suc i) (suc j) x apart = get-set_elsewhere xs i j x (λ e. apart (ap suc e))
