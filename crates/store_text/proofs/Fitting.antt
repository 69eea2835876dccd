-- What a store that fits its tables has at each of its cells.
use Rattle.std.proofs.Common.{◌≡◌, ℕ, zero, suc, ◌<◌, Bool, true, false, cond, T, List, [], ◌∷◌, length, Option, Some, IfSome, refl, sym, ap, ◌∙◌}
use Rattle.std.proofs.Common.{subst, arith, slice_get, ◌&&◌}
use Rattle.std.specs.Option.{option_map}
use Rattle.std.specs.List.{AllByRecursion}
use Rattle.std.specs.Ordering.{nat_cmp, is_eq, is_lt}
use Rattle.std.specs.declared.cmp.Ordering.{Ordering}
use Rattle.std.specs.declared.cmp.Ordering.TheVariants.{Less, Equal, Greater}
use Rattle.std.specs.Cmp.{nat_cmp_is}
use Rattle.std.proofs.lemmas.Cmp.{ranked}
use Rattle.std.proofs.lemmas.Option.{slice_get-map}
use Rattle.std.specs.FinMap.Entries.{below_all}
use Rattle.std.specs.FinMap.{entries, entries_sorted, find, get-entries, is_sorted}
use Rattle.store_core.specs.declared.ids.CellId.{CellId}
use Rattle.store_core.specs.declared.value.Value.{Value}
use Rattle.store_core.specs.Tables.{TypeEntry, FieldEntry, VarEntry, fields_of}
use Rattle.store_core.specs.Stores.{StoreMap, CellEntry, CellFits, VarsFit, SlotsFit, cell_of}
use Rattle.store_text.specs.StoreText.{HasSlots}

pub T-first : (a b : Bool) → T (a && b) → T a
T-first true b p = tt
T-first false b p = p

pub T-second : (a b : Bool) → T (a && b) → T b
T-second true b p = p
T-second false b p = absurd p

less : (o : Ordering) → T (is_lt o) → o ≡ Less
less Less p = refl
less Equal p = absurd p
less Greater p = absurd p

-- keys above the first are not it
above_at : (es : List (ℕ × CellEntry)) (k : ℕ) → T (below_all nat_cmp k es) → (i : ℕ) (e : ℕ × CellEntry) → slice_get es i ≡ Some e → k < e.0
above_at [] k below i e at = absurd (cc)
above_at (d ∷ es) k below zero e at =
    let is : d ≡ e = cc in
    subst (λ (x : ℕ × CellEntry). k < x.0) is (ranked k d.0 Less (sym (less (nat_cmp k d.0) (T-first _ _ below))))
above_at (d ∷ es) k below (suc i) e at = above_at es k (T-second _ _ below) i e at

-- the entry at a place is found under its key
pub find_entry : (es : List (ℕ × CellEntry)) → T (is_sorted nat_cmp es) → (i : ℕ) (e : ℕ × CellEntry) → slice_get es i ≡ Some e → find nat_cmp e.0 es ≡ Some e.1
find_entry [] sorted i e at = absurd (cc)
find_entry (d ∷ es) sorted zero e at =
    let is : d ≡ e = cc in
    ap (λ t. cond t (Some d.1) (find nat_cmp e.0 es))
    (ap is_eq (sym (nat_cmp_is e.0 d.0 Equal (ap (λ (x : ℕ × CellEntry). x.0) (sym is))))) ∙ ap (λ (x : ℕ × CellEntry). Some x.1) is
find_entry (d ∷ es) sorted (suc i) e at =
    ap (λ t. cond t (Some d.1) (find nat_cmp e.0 es)) (ap is_eq (sym (nat_cmp_is e.0 d.0 Greater (above_at es d.0 (T-first _ _ sorted) i e at))))
    ∙ find_entry es (T-second _ _ sorted) i e at

-- the cell under a key is that of its entry
pub cell_at : (s : StoreMap) (i : ℕ) (e : ℕ × CellEntry) → slice_get (entries s.cells) i ≡ Some e → cell_of s (record { 0 = e.0 }) ≡ Some e.1
cell_at s i e at = get-entries s.cells e.0 ∙ find_entry (entries s.cells) (entries_sorted s.cells) i e at

-- what fits at every live cell fits at every entry
pub entry_fits : (types : List TypeEntry) (s : StoreMap) → ((c : CellId) → IfSome (cell_of s c) (CellFits types s)) →
    (i : ℕ) (e : ℕ × CellEntry) → slice_get (entries s.cells) i ≡ Some e → CellFits types s e.1
entry_fits types s fits i e at = subst (λ (o : Option CellEntry). IfSome o (CellFits types s)) (cell_at s i e at) (fits (record { 0 = e.0 }))

-- what holds at each place holds of each element
pub all_from_at : {X : Type 0} (P : X → Type 0) (xs : List X) → ((i : ℕ) (x : X) → slice_get xs i ≡ Some x → P x) → AllByRecursion P xs
all_from_at P [] each = tt
all_from_at P (x ∷ xs) each = (each zero x refl, all_from_at P xs (λ i y at. each (suc i) y at))

pub SlotsFit-length : (s : StoreMap) (index : ℕ) (fields : List FieldEntry) (slots : List (Option Value)) →
    SlotsFit s index fields slots → length slots ≡ length fields
SlotsFit-length s index [] [] fit = refl
SlotsFit-length s index [] (x ∷ slots) fit = absurd fit
SlotsFit-length s index (f ∷ fields) [] fit = absurd fit
SlotsFit-length s index (f ∷ fields) (x ∷ slots) fit = let rest = SlotsFit-length s index fields slots fit.1 in omega (arith, rest)

pub VarsFit-length : (s : StoreMap) (vars : List VarEntry) (values : List Value) → VarsFit s vars values → length values ≡ length vars
VarsFit-length s [] [] fit = refl
VarsFit-length s [] (x ∷ values) fit = absurd fit
VarsFit-length s (v ∷ vars) [] fit = absurd fit
VarsFit-length s (v ∷ vars) (x ∷ values) fit = let rest = VarsFit-length s vars values fit.1 in omega (arith, rest)

-- the cells of a store that fits have a place for each field
pub HasSlots-fit : (types : List TypeEntry) (s : StoreMap) → ((c : CellId) → IfSome (cell_of s c) (CellFits types s)) →
    AllByRecursion (λ e. HasSlots types e.1) (entries s.cells)
HasSlots-fit types s fits = all_from_at (λ e. HasSlots types e.1) (entries s.cells) (λ i e at.
    SlotsFit-length s e.1.variant.index (fields_of types e.1.variant.ty) e.1.values (entry_fits types s fits i e at).values)

-- what holds of all is so of one at a place
pub all_at : {X : Type 0} (P : X → Type 0) (xs : List X) (i : ℕ) (x : X) → AllByRecursion P xs → slice_get xs i ≡ Some x → P x
all_at P [] i x all at = absurd (cc)
all_at P (y ∷ xs) zero x all at = let same : y ≡ x = cc in subst P same all.0
all_at P (y ∷ xs) (suc i) x all at = all_at P xs i x all.1 at
