-- The live cells among those that are kept, some of which were freed.
use Rattle.std.proofs.Common.{◌≡◌, ◌≢◌, ℕ, zero, suc, ◌+◌, ◌<◌, ◌≤◌, Bool, true, false, cond, List, [], ◌∷◌, ◌++◌, length, set, take}
use Rattle.std.proofs.Common.{Option, Some, None, refl, sym}
use Rattle.std.proofs.Common.{ap, ◌∙◌, subst, arith, slice_get, IsSomeAnd, IfSome, Bor}
use Rattle.std.specs.List.{AllByRecursion, filter}
use Rattle.std.specs.Option.{option_map, option_copied}
use Rattle.std.specs.Ordering.{nat_cmp, eq_by_cmp, is_eq}
use Rattle.std.proofs.lemmas.Bool.{false≢true}
use Rattle.std.proofs.lemmas.List.{length-set}
use Rattle.std.proofs.lemmas.Cmp.{nat_cmp_total}
use Rattle.std.specs.FinMap.{from_sorted, find, get, insert, get-from_sorted, get-insert, get-remove, same_map, nat_cmp-IsAntisymmetric}
use Rattle.std.specs.FinMap as fin
use Rattle.store_core.specs.declared.store.CellBody.{CellBody}
use Rattle.store_core.specs.Stores.{CellEntry}
use Rattle.store_core.specs.StoreBodies.{cell_entry, cells_of, map_of, AreInOrder, live_of, AreLive, IsKept, IsStored, LacksNumber}
use Rattle.store_core.proofs.AboveLemmas.{tied, ties, differs}
use Rattle.store_core.proofs.Bodies.{AllByRecursion-at}
use Rattle.store_core.proofs.Cells.{sorted_cells, same_cmp, more_cmp}
use Rattle.store_core.proofs.Changes.{order-set, IsKept-set, find_above}

-- ---- cells of which some are kept

pub all_filter : (P : CellBody → Type 0) (p : CellBody → Bool) (bodies : List CellBody) → AllByRecursion P bodies → AllByRecursion P (filter p bodies)
all_filter P p [] all = tt
all_filter P p (b ∷ bodies) all = by (p b) all.0 (all_filter P p bodies all.1)
  where
    by : (t : Bool) → P b → AllByRecursion P (filter p bodies) → AllByRecursion P (cond t (b ∷ filter p bodies) (filter p bodies))
    by true here rest = (here, rest)
    by false here rest = rest

pub order_filter : (p : CellBody → Bool) (bodies : List CellBody) → AreInOrder bodies → AreInOrder (filter p bodies)
order_filter p [] order = tt
order_filter p (b ∷ bodies) order = by (p b) (all_filter (λ d. b.number < d.number) p bodies order.0) (order_filter p bodies order.1)
  where
    by : (t : Bool) → AllByRecursion (λ d. b.number < d.number) (filter p bodies) → AreInOrder (filter p bodies) →
        AreInOrder (cond t (b ∷ filter p bodies) (filter p bodies))
    by true above rest = (above, rest)
    by false above rest = rest

abbrev is_live : CellBody → Bool
is_live b = b.is_live

pub order_live : (bodies : List CellBody) → AreInOrder bodies → AreInOrder (live_of bodies)
order_live bodies order = order_filter is_live bodies order

pub IsKept-live : (bodies : List CellBody) (next : ℕ) → IsKept bodies next → IsKept (live_of bodies) next
IsKept-live bodies next kept = record {
  rising = order_live bodies kept.rising;
  below = all_filter (λ b. b.number < next) is_live bodies kept.below;
}

-- cells of which none was freed
pub live_of-live : (bodies : List CellBody) → AreLive bodies → live_of bodies ≡ bodies
live_of-live [] all = refl
live_of-live (b ∷ bodies) all = ap (λ t. cond t (b ∷ live_of bodies) (live_of bodies)) all.0 ∙ ap (λ rest. b ∷ rest) (live_of-live bodies all.1)

AreLive-live : (bodies : List CellBody) → AreLive (live_of bodies)
AreLive-live [] = tt
AreLive-live (b ∷ bodies) = by b.is_live refl (AreLive-live bodies)
  where
    by : (t : Bool) → b.is_live ≡ t → AreLive (live_of bodies) → AreLive (cond t (b ∷ live_of bodies) (live_of bodies))
    by true is rest = (is, rest)
    by false is rest = rest

-- what is read at a place of the live cells is live
pub shown_live : (bodies : List CellBody) (place : ℕ) (o : Option (Bor CellBody)) → option_copied o ≡ slice_get (live_of bodies) place →
    IfSome o (λ b. b.now.is_live ≡ true)
shown_live bodies place None is = tt
shown_live bodies place (Some b) is = AllByRecursion-at (λ (d : CellBody). d.is_live ≡ true) (live_of bodies) place b.now (AreLive-live bodies) (sym is)

pub live_of-twice : (bodies : List CellBody) → live_of (live_of bodies) ≡ live_of bodies
live_of-twice bodies = live_of-live (live_of bodies) (AreLive-live bodies)

-- there are no more live cells than cells
few_live : (bodies : List CellBody) → length (live_of bodies) ≤ length bodies
few_live [] = omega arith
few_live (b ∷ bodies) = by b.is_live (few_live bodies)
  where
    by : (t : Bool) → length (live_of bodies) ≤ length bodies → length (cond t (b ∷ live_of bodies) (live_of bodies)) ≤ suc (length bodies)
    by true few = omega (arith, few)
    by false few = omega (arith, few)

-- where there are as many live cells as cells, none was freed
pub live_of-all : (bodies : List CellBody) → length bodies ≡ length (live_of bodies) → live_of bodies ≡ bodies
live_of-all [] same = refl
live_of-all (b ∷ bodies) same = by b.is_live same (live_of-all bodies)
  where
    by : (t : Bool) → suc (length bodies) ≡ length (cond t (b ∷ live_of bodies) (live_of bodies)) →
        (length bodies ≡ length (live_of bodies) → live_of bodies ≡ bodies) → cond t (b ∷ live_of bodies) (live_of bodies) ≡ b ∷ bodies
    by true same rest = ap (λ bs. b ∷ bs) (rest (omega (arith, same)))
    by false same rest = absurd (omega (arith, same, few_live bodies))

-- ---- a cell by its number

-- the cell at a place is found under its number where it is live
pub find_live : (bodies : List CellBody) → AreInOrder bodies → (i : ℕ) (b : CellBody) → slice_get bodies i ≡ Some b →
    find nat_cmp b.number (cells_of (live_of bodies)) ≡ cond b.is_live (Some (cell_entry b).1) None
find_live [] order i b at = absurd (cc)
find_live (a ∷ bodies) order zero b at =
    let is : a ≡ b = cc in
    subst (λ (e : CellBody). find nat_cmp e.number (cells_of (live_of (a ∷ bodies))) ≡ cond e.is_live (Some (cell_entry e).1) None) is (by a.is_live)
  where
    by : (t : Bool) → find nat_cmp a.number (cells_of (cond t (a ∷ live_of bodies) (live_of bodies))) ≡ cond t (Some (cell_entry a).1) None
    by true = ap (λ o. cond (is_eq o) (Some (cell_entry a).1) (find nat_cmp a.number (cells_of (live_of bodies)))) (same_cmp a.number a.number refl)
    by false = find_above a.number (live_of bodies) (all_filter (λ d. a.number < d.number) is_live bodies order.0)
find_live (a ∷ bodies) order (suc i) b at = by a.is_live (find_live bodies order.1 i b at)
  where
    by : (t : Bool) → find nat_cmp b.number (cells_of (live_of bodies)) ≡ cond b.is_live (Some (cell_entry b).1) None →
        find nat_cmp b.number (cells_of (cond t (a ∷ live_of bodies) (live_of bodies))) ≡ cond b.is_live (Some (cell_entry b).1) None
    by true rest =
        ap (λ o. cond (is_eq o) (Some (cell_entry a).1) (find nat_cmp b.number (cells_of (live_of bodies))))
        (more_cmp b.number a.number (AllByRecursion-at (λ e. a.number < e.number) bodies i b order.0 at))
        ∙ rest
    by false rest = rest

-- a number that no cell has is not found
pub find_none : (bodies : List CellBody) (q : ℕ) → LacksNumber bodies q → find nat_cmp q (cells_of (live_of bodies)) ≡ None
find_none [] q lacks = refl
find_none (b ∷ bodies) q lacks = by b.is_live (find_none bodies q lacks.1)
  where
    by : (t : Bool) → find nat_cmp q (cells_of (live_of bodies)) ≡ None → find nat_cmp q (cells_of (cond t (b ∷ live_of bodies) (live_of bodies))) ≡ None
    by true rest =
        ap (λ t. cond t (Some (cell_entry b).1) (find nat_cmp q (cells_of (live_of bodies)))) (differs q b.number (λ e. lacks.0 (sym e)))
        ∙ rest
    by false rest = rest

-- ---- a cell changed

-- other numbers are found as before
find_apart : (bodies : List CellBody) (i : ℕ) (b after : CellBody) (q : ℕ) → slice_get bodies i ≡ Some b → after.number ≡ b.number → q ≢ b.number →
    find nat_cmp q (cells_of (live_of (set bodies i after))) ≡ find nat_cmp q (cells_of (live_of bodies))
find_apart [] i b after q at same apart = refl
find_apart (a ∷ bodies) zero b after q at same apart =
    let is : a ≡ b = cc in
    skipped after after.is_live (differs q after.number (λ e. apart (e ∙ same)))
    ∙ sym (skipped a a.is_live (differs q a.number (λ e. apart (e ∙ ap (λ (d : CellBody). d.number) is))))
  where
    skipped : (d : CellBody) (t : Bool) → eq_by_cmp nat_cmp q d.number ≡ false →
        find nat_cmp q (cells_of (cond t (d ∷ live_of bodies) (live_of bodies))) ≡ find nat_cmp q (cells_of (live_of bodies))
    skipped d true apart = ap (λ x. cond x (Some (cell_entry d).1) (find nat_cmp q (cells_of (live_of bodies)))) apart
    skipped d false apart = refl
find_apart (a ∷ bodies) (suc i) b after q at same apart = by a.is_live (find_apart bodies i b after q at same apart)
  where
    by : (t : Bool) → find nat_cmp q (cells_of (live_of (set bodies i after))) ≡ find nat_cmp q (cells_of (live_of bodies)) →
        find nat_cmp q (cells_of (cond t (a ∷ live_of (set bodies i after)) (live_of (set bodies i after))))
        ≡ find nat_cmp q (cells_of (cond t (a ∷ live_of bodies) (live_of bodies)))
    by true rest = ap (cond (eq_by_cmp nat_cmp q a.number) (Some (cell_entry a).1)) rest
    by false rest = rest

slice_get-set : (bodies : List CellBody) (i : ℕ) (b after : CellBody) → slice_get bodies i ≡ Some b → slice_get (set bodies i after) i ≡ Some after
slice_get-set [] i b after at = absurd (cc)
slice_get-set (a ∷ bodies) zero b after at = refl
slice_get-set (a ∷ bodies) (suc i) b after at = slice_get-set bodies i b after at

find_changed : (bodies : List CellBody) → AreInOrder bodies → (i : ℕ) (b after : CellBody) → slice_get bodies i ≡ Some b → after.number ≡ b.number →
    (q : ℕ) (t : Bool) → eq_by_cmp nat_cmp q b.number ≡ t
    → find nat_cmp q (cells_of (live_of (set bodies i after)))
    ≡ cond t (cond after.is_live (Some (cell_entry after).1) None) (find nat_cmp q (cells_of (live_of bodies)))
find_changed bodies order i b after at same q true is =
    ap (λ n. find nat_cmp n (cells_of (live_of (set bodies i after)))) (tied q b.number is ∙ sym same)
    ∙ find_live (set bodies i after) (order-set bodies i b after at same order) i after (slice_get-set bodies i b after at)
find_changed bodies order i b after at same q false is =
    find_apart bodies i b after q at same (λ e. false≢true (sym is ∙ ties q b.number e))

module _ (bodies : List CellBody) (order : AreInOrder bodies) (i : ℕ) (b after : CellBody) (k : ℕ) (at : slice_get bodies i ≡ Some b)
    (same : after.number ≡ b.number) (is : b.number ≡ k) where
  get_changed : (q : ℕ) → get (from_sorted {R = nat_cmp} (cells_of (live_of (set bodies i after)))) q
      ≡ cond (eq_by_cmp nat_cmp q k) (cond after.is_live (Some (cell_entry after).1) None) (get (from_sorted {R = nat_cmp} (cells_of (live_of bodies))) q)
  get_changed q =
      get-from_sorted nat_cmp (cells_of (live_of (set bodies i after))) q
      (sorted_cells (live_of (set bodies i after)) (order_live (set bodies i after) (order-set bodies i b after at same order)))
      ∙ find_changed bodies order i b after at same q (eq_by_cmp nat_cmp q b.number) refl
      ∙ ap (λ n. cond (eq_by_cmp nat_cmp q n) (cond after.is_live (Some (cell_entry after).1) None) (find nat_cmp q (cells_of (live_of bodies)))) is
      ∙ ap (cond (eq_by_cmp nat_cmp q k) (cond after.is_live (Some (cell_entry after).1) None))
      (sym (get-from_sorted nat_cmp (cells_of (live_of bodies)) q (sorted_cells (live_of bodies) (order_live bodies order))))

  -- a live cell written over is one inserted
  pub cells-set : after.is_live ≡ true
      → from_sorted {R = nat_cmp} (cells_of (live_of (set bodies i after))) ≡ insert (from_sorted (cells_of (live_of bodies))) k (cell_entry after).1
  cells-set live =
      same_map nat_cmp_total nat_cmp-IsAntisymmetric _ _ (λ q.
      get_changed q
      ∙ ap (λ t. cond (eq_by_cmp nat_cmp q k) (cond t (Some (cell_entry after).1) None) (get (from_sorted {R = nat_cmp} (cells_of (live_of bodies))) q)) live
      ∙ sym (get-insert nat_cmp_total (from_sorted (cells_of (live_of bodies))) k (cell_entry after).1 q))

  -- one that is freed is one removed
  pub cells-free : after.is_live ≡ false
      → from_sorted {R = nat_cmp} (cells_of (live_of (set bodies i after))) ≡ fin.remove (from_sorted (cells_of (live_of bodies))) k
  cells-free freed =
      same_map nat_cmp_total nat_cmp-IsAntisymmetric _ _ (λ q.
      get_changed q
      ∙ ap (λ t. cond (eq_by_cmp nat_cmp q k) (cond t (Some (cell_entry after).1) None) (get (from_sorted {R = nat_cmp} (cells_of (live_of bodies))) q)) freed
      ∙ sym (get-remove nat_cmp_total (from_sorted (cells_of (live_of bodies))) k q))

-- ---- how many are live

abbrev bit : Bool → ℕ
bit t = cond t 1 0

-- a cell changed
pub length_live-set : (bodies : List CellBody) (i : ℕ) (b after : CellBody) → slice_get bodies i ≡ Some b →
    length (live_of (set bodies i after)) + bit b.is_live ≡ length (live_of bodies) + bit after.is_live
length_live-set [] i b after at = absurd (cc)
length_live-set (a ∷ bodies) zero b after at =
    let is : a ≡ b = cc in
    ap (λ n. n + bit b.is_live) (by after after.is_live) ∙ omega arith ∙ ap (λ n. n + bit after.is_live) (sym (by b b.is_live))
    ∙ ap (λ (d : CellBody). length (live_of (d ∷ bodies)) + bit after.is_live) (sym is)
  where
    by : (d : CellBody) (t : Bool) → length (cond t (d ∷ live_of bodies) (live_of bodies)) ≡ length (live_of bodies) + bit t
    by d true = omega arith
    by d false = omega arith
length_live-set (a ∷ bodies) (suc i) b after at = by a.is_live (length_live-set bodies i b after at)
  where
    by : (t : Bool) → length (live_of (set bodies i after)) + bit b.is_live ≡ length (live_of bodies) + bit after.is_live →
        length (cond t (a ∷ live_of (set bodies i after)) (live_of (set bodies i after))) + bit b.is_live
        ≡ length (cond t (a ∷ live_of bodies) (live_of bodies)) + bit after.is_live
    by true rest = omega (arith, rest)
    by false rest = rest

-- a cell more
pub live_of-push : (bodies : List CellBody) (b : CellBody) → b.is_live ≡ true → live_of (bodies ++ b ∷ []) ≡ live_of bodies ++ b ∷ []
live_of-push [] b live = ap (λ t. cond t (b ∷ []) []) live
live_of-push (a ∷ bodies) b live = by a.is_live (live_of-push bodies b live)
  where
    by : (t : Bool) → live_of (bodies ++ b ∷ []) ≡ live_of bodies ++ b ∷ [] →
        cond t (a ∷ live_of (bodies ++ b ∷ [])) (live_of (bodies ++ b ∷ [])) ≡ cond t (a ∷ live_of bodies) (live_of bodies) ++ b ∷ []
    by true rest = ap (λ bs. a ∷ bs) rest
    by false rest = rest

-- ---- the live cells by place

-- the first cells' live ones, and one cell more
pub length_live-take : (bodies : List CellBody) (i : ℕ) (b : CellBody) → slice_get bodies i ≡ Some b →
    length (live_of (take (i + 1) bodies)) ≡ length (live_of (take i bodies)) + bit b.is_live
length_live-take [] i b at = absurd (cc)
length_live-take (a ∷ bodies) zero b at = let is : a ≡ b = cc in by a.is_live ∙ ap (λ (d : CellBody). 0 + bit d.is_live) is
  where
    by : (t : Bool) → length (cond t (a ∷ live_of (take 0 bodies)) (live_of (take 0 bodies))) ≡ 0 + bit t
    by true = refl
    by false = refl
length_live-take (a ∷ bodies) (suc i) b at =
    ap (λ n. length (live_of (take n (a ∷ bodies)))) next ∙ by a.is_live (length_live-take bodies i b at)
  where
    next : suc i + 1 ≡ suc (i + 1)
    next = omega arith

    by : (t : Bool) → length (live_of (take (i + 1) bodies)) ≡ length (live_of (take i bodies)) + bit b.is_live →
        length (cond t (a ∷ live_of (take (i + 1) bodies)) (live_of (take (i + 1) bodies)))
        ≡ length (cond t (a ∷ live_of (take i bodies)) (live_of (take i bodies))) + bit b.is_live
    by true rest = omega (arith, rest)
    by false rest = rest

-- a live cell's place is how many live ones stand before it
pub live_at-place : (bodies : List CellBody) (i : ℕ) (b : CellBody) → slice_get bodies i ≡ Some b → b.is_live ≡ true →
    slice_get (live_of bodies) (length (live_of (take i bodies))) ≡ Some b
live_at-place [] i b at live = absurd (cc)
live_at-place (a ∷ bodies) zero b at live =
    let is : a ≡ b = cc in
    ap (λ t. slice_get (cond t (a ∷ live_of bodies) (live_of bodies)) 0) (ap (λ (d : CellBody). d.is_live) is ∙ live) ∙ ap (λ (d : CellBody). Some d) is
live_at-place (a ∷ bodies) (suc i) b at live = by a.is_live (live_at-place bodies i b at live)
  where
    by : (t : Bool) → slice_get (live_of bodies) (length (live_of (take i bodies))) ≡ Some b →
        slice_get (cond t (a ∷ live_of bodies) (live_of bodies)) (length (cond t (a ∷ live_of (take i bodies)) (live_of (take i bodies)))) ≡ Some b
    by true rest = rest
    by false rest = rest

-- ---- what a search finds

module _ (bodies : List CellBody) (order : AreInOrder bodies) (q : ℕ) where
  pub get-none : LacksNumber bodies q → get (map_of (live_of bodies)) q ≡ None
  get-none lacks = get-from_sorted nat_cmp (cells_of (live_of bodies)) q (sorted_cells (live_of bodies) (order_live bodies order)) ∙ find_none bodies q lacks

  -- the cell at a place with this number is the map's where it is live
  pub get-at : (i : ℕ) (b : CellBody) → slice_get bodies i ≡ Some b → b.number ≡ q →
      get (map_of (live_of bodies)) q ≡ cond b.is_live (Some (cell_entry b).1) None
  get-at i b at is =
      get-from_sorted nat_cmp (cells_of (live_of bodies)) q (sorted_cells (live_of bodies) (order_live bodies order))
      ∙ ap (λ n. find nat_cmp n (cells_of (live_of bodies))) (sym is) ∙ find_live bodies order i b at

-- what is kept of cells of which the freed ones are let go
pub IsStored-settled : (bodies : List CellBody) (freed next : ℕ) → IsStored bodies freed next → IsStored (live_of bodies) 0 next
IsStored-settled bodies freed next stored = record {
  kept = IsKept-live bodies next stored.kept;
  count = omega (arith, ap length (live_of-twice bodies));
}

pub IsStored-live : (bodies : List CellBody) (next : ℕ) → IsKept bodies next → AreLive bodies → IsStored bodies 0 next
IsStored-live bodies next kept live = record { kept = kept; count = omega (arith, ap length (live_of-live bodies live)) }

-- ---- the cell that a search found

-- a live cell of the number
pub record FoundLive (bodies : List CellBody) (q place : ℕ) : Type 0 where
  pub body : CellBody
  pub at : slice_get bodies place ≡ Some body
  pub number : body.number ≡ q
  pub live : body.is_live ≡ true

pub found_at : (bodies : List CellBody) (q place : ℕ) → IsSomeAnd (slice_get bodies place) (λ b. (b.number ≡ q) × (b.is_live ≡ true)) →
    FoundLive bodies q place
found_at bodies q place found = by (slice_get bodies place) refl found
  where
    by : (o : Option CellBody) → slice_get bodies place ≡ o → IsSomeAnd o (λ b. (b.number ≡ q) × (b.is_live ≡ true)) → FoundLive bodies q place
    by None is found = absurd found
    by (Some b) is found = record { body = b; at = is; number = found.0; live = found.1 }

-- the map has it
pub found_live : (bodies : List CellBody) → AreInOrder bodies → (q place : ℕ) →
    IsSomeAnd (slice_get bodies place) (λ b. (b.number ≡ q) × (b.is_live ≡ true))
    → get (map_of (live_of bodies)) q ≡ option_map (λ b. (cell_entry b).1) (slice_get bodies place)
found_live bodies order q place found =
    let is = found_at bodies q place found in
    get-at bodies order q place is.body is.at is.number
    ∙ ap (λ t. cond t (Some (cell_entry is.body).1) None) is.live
    ∙ sym (ap (option_map (λ (b : CellBody). (cell_entry b).1)) is.at)

-- ---- a cell that a search found is changed

module _ (bodies : List CellBody) (freed next q place : ℕ) (is : FoundLive bodies q place) (after : CellBody) (same : after.number ≡ is.body.number)
    (stored : IsStored bodies freed next) where
  -- and is live
  pub IsStored-set : after.is_live ≡ true → IsStored (set bodies place after) freed next
  IsStored-set live = record {
    kept = IsKept-set bodies place is.body after next is.at same stored.kept;
    count = omega (arith, length_live-set bodies place is.body after is.at, length-set bodies place after, ap bit is.live, ap bit live, stored.count);
  }

  -- and is freed
  pub IsStored-free : after.is_live ≡ false → IsStored (set bodies place after) (freed + 1) next
  IsStored-free dead = record {
    kept = IsKept-set bodies place is.body after next is.at same stored.kept;
    count = omega (arith, length_live-set bodies place is.body after is.at, length-set bodies place after, ap bit is.live, ap bit dead, stored.count);
  }
