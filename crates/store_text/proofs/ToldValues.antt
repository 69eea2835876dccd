-- A value that fits is read from what is spelled of it, and what it names is no fault.
use Rattle.std.proofs.Common.{◌≡◌, ℕ, ◌<◌, ◌==◌, false, cond, not, List, [], ◌∷◌, ◌++◌, length, map, slice_get, slice_set, Option, Some, None, Ok}
use Rattle.std.proofs.Common.{IfSome, refl, sym, ap, ◌∙◌, arith, append_assoc}
use Rattle.std.specs.Option.{option_map, option_map_or}
use Rattle.std.specs.List.{AllByRecursion, list_any}
use Rattle.std.specs.Ordering.{nat_cmp, match_ordering}
use Rattle.std.specs.declared.cmp.Ordering.TheVariants.{Greater}
use Rattle.std.specs.Cmp.{nat_cmp_is}
use Rattle.std.specs.BTreeSet.{insert_key}
use Rattle.std.proofs.lemmas.List.{append-nil}
use Rattle.store_core.specs.declared.ids.TypeId.{TypeId}
use Rattle.store_core.specs.declared.ids.CellId.{CellId}
use Rattle.store_core.specs.declared.value.Value.{Value}
use Rattle.store_core.specs.declared.value.Value.TheVariants as value
use Rattle.store_text.specs.declared.fault.StoreKind.TheVariants.{Repeated}
use Rattle.store_text.specs.declared.read.holds.Holds.{Holds}
use Rattle.store_text.specs.declared.read.holds.Holds.TheVariants as holds
use Rattle.store_text.specs.declared.read.holds.Mention.{Mention}
use Rattle.store_core.specs.CellLists.{AreRising}
use Rattle.store_core.specs.Stores.{StoreMap, CellEntry, NamesType, cell_of}
use Rattle.store_text.specs.Saying.{or_fault, value_for, set_of, members_after, cells_numbered, mentions_of}
use Rattle.store_core.proofs.Growing.{AllByRecursion-push, AllByRecursion-weaker}
use Rattle.store_text.proofs.ReadValues.{Fine, HoldsFit}
use Rattle.store_text.proofs.Spelled.{spelled_of}

-- ---- lists with one more done

pub slice_get-front : {X : Type 0} (front : List X) (x : X) (rest : List X) → slice_get (front ++ x ∷ rest) (length front) ≡ Some x
slice_get-front [] x rest = refl
slice_get-front (y ∷ front) x rest = slice_get-front front x rest

pub slice_set-front : {X : Type 0} (front : List X) (x y : X) (rest : List X) → slice_set (front ++ x ∷ rest) (length front) y ≡ front ++ y ∷ rest
slice_set-front [] x y rest = refl
slice_set-front (z ∷ front) x y rest = ap (λ l. z ∷ l) (slice_set-front front x y rest)

-- ---- sets

-- a number above all goes last, and is none of them
insert_last : (ns : List ℕ) (n : ℕ) → AllByRecursion (λ m. m < n) ns → insert_key nat_cmp ns n ≡ ns ++ n ∷ []
insert_last [] n all = refl
insert_last (m ∷ ns) n all = ap (λ o. match_ordering o (n ∷ m ∷ ns) (m ∷ ns) (m ∷ insert_key nat_cmp ns n))
    (sym (nat_cmp_is n m Greater all.0)) ∙ ap (λ l. m ∷ l) (insert_last ns n all.1)

none_is : (ns : List ℕ) (n : ℕ) → AllByRecursion (λ m. m < n) ns → list_any (λ m. m == n) ns ≡ false
none_is [] n all = refl
none_is (m ∷ ns) n all = let apart : (m == n) ≡ false = grind (arith, all.0) in rw apart (none_is ns n all.1)

-- the members so far are below the next
abbrev below_first : List ℕ → List CellId → Type 0
below_first so_far [] = Unit {0}
below_first so_far (c ∷ cells) = AllByRecursion (λ m. m < c.0) so_far

members_told : (cells : List CellId) (so_far : List ℕ) → AreRising cells → below_first so_far cells →
    members_after so_far (map (λ c. c.0) cells) ≡ Some (so_far ++ map (λ c. c.0) cells)
members_told [] so_far rising below = ap Some (sym (append-nil so_far))
members_told (c ∷ cells) so_far rising below =
    ap (λ t. cond t None (members_after (insert_key nat_cmp so_far c.0) (map (λ c. c.0) cells))) (none_is so_far c.0 below)
    ∙ ap (λ l. members_after l (map (λ c. c.0) cells)) (insert_last so_far c.0 below)
    ∙ members_told cells (so_far ++ c.0 ∷ []) rising.1 (still cells rising.0)
    ∙ ap Some (append_assoc so_far (c.0 ∷ []) (map (λ c. c.0) cells))
  where
    still : (cells : List CellId) → AllByRecursion (λ d. c.0 < d.0) cells → below_first (so_far ++ c.0 ∷ []) cells
    still [] all = tt
    still (d ∷ cells) all = AllByRecursion-push (λ m. m < d.0) so_far c.0
        (AllByRecursion-weaker (λ m. m < c.0) (λ m. m < d.0) (λ m lt. omega (arith, all.0)) so_far below) all.0

numbered_again : (cells : List CellId) → cells_numbered (map (λ c. c.0) cells) ≡ cells
numbered_again [] = refl
numbered_again (c ∷ cells) = ap (λ l. c ∷ l) (numbered_again cells)

-- ---- values

pub value_told : (s : StoreMap) (h : Holds) (x : Value) → HoldsFit s h x → value_for h (spelled_of x) ≡ Ok x
unfolding value_for set_of
value_told s holds.Truth (value.Bool b) fits = refl
value_told s holds.Truth (value.Cell c) fits = absurd fits
value_told s holds.Truth (value.Cells cs) fits = absurd fits
value_told s (holds.Reference target) (value.Bool b) fits = absurd fits
value_told s (holds.Reference target) (value.Cell None) fits = refl
value_told s (holds.Reference target) (value.Cell (Some c)) fits = refl
value_told s (holds.Reference target) (value.Cells cs) fits = absurd fits
value_told s (holds.Set target) (value.Bool b) fits = absurd fits
value_told s (holds.Set target) (value.Cell c) fits = absurd fits
value_told s (holds.Set target) (value.Cells cells) fits =
    ap (λ o. or_fault Repeated (option_map (λ members. value.Cells (cells_numbered members)) o))
    (members_told cells [] fits.0 (nothing cells)) ∙ ap (λ l. Ok (value.Cells l)) (numbered_again cells)
  where
    nothing : (cells : List CellId) → below_first [] cells
    nothing [] = tt
    nothing (c ∷ cells) = tt

-- ---- what is named

fine_one : (s : StoreMap) (n : ℕ) (target : TypeId) (c : CellId) → NamesType s target c → Fine s (record { line = n; target = target; cell = c })
fine_one s n target c names = by (cell_of s c) names
  where
    by : (o : Option CellEntry) → IfSome o (λ cell. cell.variant.ty ≡ target) → option_map_or (λ cell. not (cell.variant.ty.0 == target.0)) o false ≡ false
    by None h = refl
    by (Some cell) h = let same : cell.variant.ty.0 ≡ target.0 = ap (λ (t : TypeId). t.0) h in grind arith

fine_all : (s : StoreMap) (n : ℕ) (target : TypeId) (cells : List CellId) → AllByRecursion (NamesType s target) cells →
    AllByRecursion (Fine s) (map (λ c. record { line = n; target = target; cell = c }) cells)
fine_all s n target [] names = tt
fine_all s n target (c ∷ cells) names = (fine_one s n target c names.0, fine_all s n target cells names.1)

pub value_fine : (s : StoreMap) (n : ℕ) (h : Holds) (x : Value) → HoldsFit s h x → AllByRecursion (Fine s) (mentions_of n h x)
value_fine s n holds.Truth x fits = tt
value_fine s n (holds.Reference target) (value.Bool b) fits = tt
value_fine s n (holds.Reference target) (value.Cell None) fits = tt
value_fine s n (holds.Reference target) (value.Cell (Some c)) fits = (fine_one s n target c fits, tt)
value_fine s n (holds.Reference target) (value.Cells cs) fits = tt
value_fine s n (holds.Set target) (value.Bool b) fits = tt
value_fine s n (holds.Set target) (value.Cell c) fits = tt
value_fine s n (holds.Set target) (value.Cells cells) fits = fine_all s n target cells fits.1

pub fine_append : (s : StoreMap) (ms more : List Mention) → AllByRecursion (Fine s) ms → AllByRecursion (Fine s) more → AllByRecursion (Fine s) (ms ++ more)
fine_append s [] more one other = other
fine_append s (m ∷ ms) more one other = (one.0, fine_append s ms more one.1 other)
