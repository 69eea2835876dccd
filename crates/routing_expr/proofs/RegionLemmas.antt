-- The cells that are kept of a store are the store on the set.
use Rattle.std.proofs.Common.{◌≡◌, ◌⊎◌, ◌↔◌, ℕ, zero, suc, ◌+◌, ◌++◌, ◌<◌, ◌≤◌, Bool, true, false, cond, T, ◌==◌, ◌||◌, ◌&&◌, map, take, List, [], ◌∷◌, length}
use Rattle.std.proofs.Common.{slice_get, Option, Some, None, refl, sym, ap, ◌∙◌, subst, arith, inl, inr}
use Rattle.std.specs.Prelude.{Contains}
use Rattle.std.specs.List.{AllByRecursion, filter}
use Rattle.std.specs.Ordering.{nat_cmp, eq_by_cmp, is_lt}
use Rattle.std.specs.BTreeSet.{BTreeSet, contains}
use Rattle.std.specs.FinMap.Entries.{below_all}
use Rattle.std.specs.FinMap.{entries, entries_sorted, from_sorted, retain_keys, find, get, is_sorted, get-from_sorted, get-retain_keys, get-entries}
use Rattle.std.specs.FinMap.{same_map, nat_cmp-IsAntisymmetric}
use Rattle.std.proofs.lemmas.Bool.{cases_lt, cases_eq, or_cases, eq-eqb, eqb-true, false≢true}
use Rattle.std.proofs.lemmas.Cmp.{nat_cmp_total}
use Rattle.std.proofs.lemmas.List.{take_more, map_push}
use Rattle.std.proofs.lemmas.Option.{same_Some, slice_get_within, slice_get-get_or, get_or_from_slice_get}
use Rattle.store_core.specs.declared.ids.CellId.{CellId}
use Rattle.store_core.specs.declared.store.CellBody.{CellBody}
use Rattle.store_core.specs.Stores.{StoreMap, CellEntry, IsAbove}
use Rattle.store_core.specs.StoreBodies.{cell_entry, cells_of, AreInOrder, AreLive, IsKept}
use Rattle.store_core.proofs.AboveLemmas.{tied, ties, differs}
use Rattle.store_core.proofs.Cells.{and_T}
use Rattle.routing_walks.specs.Regions.{has_number}
use Rattle.routing_walks.specs.Sets.{Has}
use Rattle.routing_walks.proofs.KeyLemmas.{both_first, both_second, is_less}

-- ---- the numbers of a set

-- one of the first of these cells, as many as this
pub record IsOneBelow (cells : List CellId) (n : ℕ) (c : CellId) : Type 0 where
  pub place : ℕ
  pub below : place < n
  pub at : slice_get cells place ≡ Some c

pub one_step : (cells : List CellId) (n : ℕ) (cell : CellId) → slice_get cells n ≡ Some cell → (c : CellId) →
    (IsOneBelow cells n c ⊎ (c ≡ cell)) ↔ IsOneBelow cells (n + 1) c
one_step cells n cell at c = (
  λ h. elim h [
    | inl old ↦ record { place = old.place; below = omega (arith, old.below); at = old.at }
    | inr same ↦ record { place = n; below = omega arith; at = at ∙ ap (λ (d : CellId). Some d) (sym same) }
  ],
  λ h. elim (cases_lt h.place n) [
    | inl less ↦ inl (record { place = h.place; below = less; at = h.at })
    | inr more ↦ let here : h.place ≡ n = omega (arith, h.below) in inr (same_Some c cell (sym h.at ∙ ap (λ k. slice_get cells k) here ∙ at))
  ],
)

pub one_all : (cells : List CellId) (n : ℕ) → length cells ≤ n → (c : CellId) → IsOneBelow cells n c ↔ Contains cells c
one_all cells n all c = (
  λ h. (h.place, slice_get_within cells h.place c h.at, get_or_from_slice_get cells h.place c c h.at),
  λ m. record { place = m.0; below = omega (arith, m.1); at = slice_get-get_or cells m.0 c m.1 ∙ ap (λ (d : CellId). Some d) m.2 },
)

-- a number more
pub Has-insert : (old new : BTreeSet ℕ) (cell d : CellId) →
    contains nat_cmp new d.0 ≡ cond (eq_by_cmp nat_cmp cell.0 d.0) true (contains nat_cmp old d.0) → Has new d ↔ (Has old d ⊎ (d ≡ cell))
Has-insert old new cell d is = elim (cases_eq cell.0 d.0) [
  | inl same ↦ (
    λ h. inr (ap (λ (n : ℕ). record { 0 = n }) (sym same)),
    λ h. is ∙ ap (λ t. cond t true (contains nat_cmp old d.0)) (ties cell.0 d.0 same),
  )
  | inr apart ↦
      let unchanged : contains nat_cmp new d.0 ≡ contains nat_cmp old d.0 =
      is ∙ ap (λ t. cond t true (contains nat_cmp old d.0)) (differs cell.0 d.0 apart) in (
        λ h. inl (sym unchanged ∙ h),
        λ h. elim h [ inl was ↦ unchanged ∙ was | inr same ↦ absurd (apart (ap (λ (e : CellId). e.0) (sym same))) ],
      )
]

-- a number is that of one of the cells where the cell with the number is one
has_from : (cells : List CellId) (c : CellId) (k : ℕ) → slice_get cells k ≡ Some c → has_number cells c.0 ≡ true
has_from [] c k at = absurd (cc)
has_from (d ∷ cells) c zero at =
    let same : d ≡ c = cc in first (d.0 == c.0) (has_number cells c.0) (eq-eqb d.0 c.0 (ap (λ (e : CellId). e.0) same))
  where
    first : (x y : Bool) → x ≡ true → (x || y) ≡ true
    first true y e = refl
    first false y e = absurd (false≢true e)
has_from (d ∷ cells) c (suc k) at = second (d.0 == c.0) (has_number cells c.0) (has_from cells c k at)
  where
    second : (x y : Bool) → y ≡ true → (x || y) ≡ true
    second true y e = refl
    second false y e = e

has_to : (cells : List CellId) (c : CellId) → has_number cells c.0 ≡ true → (k : ℕ) × (slice_get cells k ≡ Some c)
has_to [] c has = absurd (false≢true has)
has_to (d ∷ cells) c has = elim (or_cases (d.0 == c.0) (has_number cells c.0) has) [
  | inl here ↦ (0, ap (λ (n : ℕ). Some (record { 0 = n })) (eqb-true d.0 c.0 here))
  | inr there ↦ let rest = has_to cells c there in (suc rest.0, rest.1)
]

same_truth : (a b : Bool) → (a ≡ true → b ≡ true) → (b ≡ true → a ≡ true) → a ≡ b
same_truth true true f g = refl
same_truth true false f g = sym (f refl)
same_truth false true f g = g refl
same_truth false false f g = refl

-- a test that passes the members' numbers is that of the set
has-test : (test : ℕ → Bool) (cells : List CellId) → ((c : CellId) → (test c.0 ≡ true) ↔ Contains cells c) → (q : ℕ) → test q ≡ has_number cells q
has-test test cells members q =
    let c : CellId = record { 0 = q } in
    same_truth (test q) (has_number cells q)
    (λ passes. let m = (members c).0 passes in has_from cells c m.0 (slice_get-get_or cells m.0 c m.1 ∙ ap (λ (d : CellId). Some d) m.2))
    (λ has. let found = has_to cells c has in
    (members c).1 (found.0, slice_get_within cells found.0 c found.1, get_or_from_slice_get cells found.0 c c found.1))

-- ---- the kept cells

-- entries of which those that pass are kept
all_kept : (P : ℕ × CellEntry → Type 0) (p : ℕ × CellEntry → Bool) (es : List (ℕ × CellEntry)) → AllByRecursion P es → AllByRecursion P (filter p es)
all_kept P p [] all = tt
all_kept P p (e ∷ es) all = by (p e) all.0 (all_kept P p es all.1)
  where
    by : (t : Bool) → P e → AllByRecursion P (filter p es) → AllByRecursion P (cond t (e ∷ filter p es) (filter p es))
    by true here rest = (here, rest)
    by false here rest = rest

below_kept : (n : ℕ) (p : ℕ × CellEntry → Bool) (es : List (ℕ × CellEntry)) → T (below_all nat_cmp n es) → T (below_all nat_cmp n (filter p es))
below_kept n p [] below = tt
below_kept n p (e ∷ es) below = by (p e) (both_first _ _ below) (below_kept n p es (both_second _ _ below))
  where
    by : (t : Bool) → T (is_lt (nat_cmp n e.0)) → T (below_all nat_cmp n (filter p es)) → T (below_all nat_cmp n (cond t (e ∷ filter p es) (filter p es)))
    by true less rest = and_T _ _ less rest
    by false less rest = rest

-- they stay in order
sorted_kept : (p : ℕ × CellEntry → Bool) (es : List (ℕ × CellEntry)) → T (is_sorted nat_cmp es) → T (is_sorted nat_cmp (filter p es))
sorted_kept p [] sorted = tt
sorted_kept p (e ∷ es) sorted = by (p e) (below_kept e.0 p es (both_first _ _ sorted)) (sorted_kept p es (both_second _ _ sorted))
  where
    by : (t : Bool) → T (below_all nat_cmp e.0 (filter p es)) → T (is_sorted nat_cmp (filter p es)) →
        T (is_sorted nat_cmp (cond t (e ∷ filter p es) (filter p es)))
    by true below rest = and_T _ _ below rest
    by false below rest = rest

-- entries in order are those of cells in order
order_sorted : (bodies : List CellBody) → T (is_sorted nat_cmp (cells_of bodies)) → AreInOrder bodies
order_sorted [] sorted = tt
order_sorted (b ∷ bodies) sorted = (above b.number bodies (both_first _ _ sorted), order_sorted bodies (both_second _ _ sorted))
  where
    above : (n : ℕ) (bodies : List CellBody) → T (below_all nat_cmp n (cells_of bodies)) → AllByRecursion (λ d. n < d.number) bodies
    above n [] below = tt
    above n (d ∷ bodies) below = (is_less n d.number (both_first _ _ below), above n bodies (both_second _ _ below))

nothing : (t : Bool) (o : Option CellEntry) → o ≡ cond t o o
nothing true o = refl
nothing false o = refl

-- one cell more, which is kept or isn't
find_step : (test : ℕ → Bool) (e : ℕ × CellEntry) (es : List (ℕ × CellEntry)) (q : ℕ) →
    find nat_cmp q (filter (λ d. test d.0) es) ≡ cond (test q) (find nat_cmp q es) None → (t here : Bool) →
    test e.0 ≡ t → eq_by_cmp nat_cmp q e.0 ≡ here →
    find nat_cmp q (cond t (e ∷ filter (λ d. test d.0) es) (filter (λ d. test d.0) es))
    ≡ cond (test q) (cond here (Some e.1) (find nat_cmp q es)) None
find_step test e es q rest true true is same =
    ap (λ x. cond x (Some e.1) (find nat_cmp q (filter (λ d. test d.0) es))) same
    ∙ sym (ap (λ x. cond x (Some e.1) None) (ap test (tied q e.0 same) ∙ is))
find_step test e es q rest true false is apart =
    ap (λ x. cond x (Some e.1) (find nat_cmp q (filter (λ d. test d.0) es))) apart ∙ rest
find_step test e es q rest false true is same =
    rest ∙ ap (λ x. cond x (find nat_cmp q es) None) (ap test (tied q e.0 same) ∙ is)
    ∙ sym (ap (λ x. cond x (Some e.1) None) (ap test (tied q e.0 same) ∙ is))
find_step test e es q rest false false is apart = rest

-- a number is found among the kept cells where it passes
find_filter : (test : ℕ → Bool) (es : List (ℕ × CellEntry)) (q : ℕ) →
    find nat_cmp q (filter (λ e. test e.0) es) ≡ cond (test q) (find nat_cmp q es) None
find_filter test [] q = nothing (test q) None
find_filter test (e ∷ es) q = find_step test e es q (find_filter test es q) (test e.0) (eq_by_cmp nat_cmp q e.0) refl refl

-- cells that show the kept entries of a store
module _ (kept : List CellBody) (s : StoreMap) (test : ℕ → Bool) (is : cells_of kept ≡ filter (λ e. test e.0) (entries s.cells)) where
  kept_sorted : T (is_sorted nat_cmp (filter (λ e. test e.0) (entries s.cells)))
  kept_sorted = sorted_kept (λ e. test e.0) (entries s.cells) (entries_sorted s.cells)

  -- they are in order and below the next number
  pub IsKept-on : IsAbove s → IsKept kept s.next
  IsKept-on above = record {
    rising = order_sorted kept (subst (λ es. T (is_sorted nat_cmp es)) (sym is) kept_sorted);
    below = numbers kept (subst (AllByRecursion (λ (e : ℕ × CellEntry). e.0 < s.next)) (sym is)
        (all_kept (λ e. e.0 < s.next) (λ e. test e.0) (entries s.cells) (entries_below (entries s.cells) above)));
  }
    where
      entries_below : (es : List (ℕ × CellEntry)) → AllByRecursion (λ n. n < s.next) (map (λ (e : ℕ × CellEntry). e.0) es) →
          AllByRecursion (λ (e : ℕ × CellEntry). e.0 < s.next) es
      entries_below [] all = tt
      entries_below (e ∷ es) all = (all.0, entries_below es all.1)

      numbers : (bodies : List CellBody) → AllByRecursion (λ (e : ℕ × CellEntry). e.0 < s.next) (cells_of bodies) →
          AllByRecursion (λ b. b.number < s.next) bodies
      numbers [] all = tt
      numbers (b ∷ bodies) all = (all.0, numbers bodies all.1)

  -- and they are those of the store on the set
  pub cells_on : (cells : List CellId) → ((c : CellId) → (test c.0 ≡ true) ↔ Contains cells c) →
      from_sorted {R = nat_cmp} (cells_of kept) ≡ retain_keys s.cells (has_number cells)
  cells_on cells members =
      same_map nat_cmp_total nat_cmp-IsAntisymmetric _ _ (λ q.
      ap (λ es. get (from_sorted {R = nat_cmp} es) q) is
      ∙ get-from_sorted nat_cmp (filter (λ e. test e.0) (entries s.cells)) q kept_sorted
      ∙ find_filter test (entries s.cells) q
      ∙ ap (λ t. cond t (find nat_cmp q (entries s.cells)) None) (has-test test cells members q)
      ∙ ap (λ o. cond (has_number cells q) o None) (sym (get-entries s.cells q))
      ∙ sym (get-retain_keys s.cells (has_number cells) q (λ x e. ap (has_number cells) (sym (nat_cmp-IsAntisymmetric q x e)))))

-- ---- a place more

-- the first entries that are kept, and one entry more
pub kept_more : (p : ℕ × CellEntry → Bool) (es : List (ℕ × CellEntry)) (i : ℕ) (e : ℕ × CellEntry) → slice_get es i ≡ Some e →
    filter p (take (i + 1) es) ≡ cond (p e) (filter p (take i es) ++ e ∷ []) (filter p (take i es))
kept_more p es i e at = ap (filter p) more ∙ filter_push p (take i es) e
  where
    more : take (i + 1) es ≡ take i es ++ e ∷ []
    more = take_more es i e (slice_get_within es i e at) ∙ ap (λ x. take i es ++ x ∷ []) (get_or_from_slice_get es i e e at)

    filter_push : (p : ℕ × CellEntry → Bool) (xs : List (ℕ × CellEntry)) (x : ℕ × CellEntry) →
        filter p (xs ++ x ∷ []) ≡ cond (p x) (filter p xs ++ x ∷ []) (filter p xs)
    filter_push p [] x = refl
    filter_push p (y ∷ xs) x = by (p y) (p x) (filter_push p xs x)
      where
        by : (t u : Bool) → filter p (xs ++ x ∷ []) ≡ cond u (filter p xs ++ x ∷ []) (filter p xs) →
            cond t (y ∷ filter p (xs ++ x ∷ [])) (filter p (xs ++ x ∷ []))
            ≡ cond u (cond t (y ∷ filter p xs) (filter p xs) ++ x ∷ []) (cond t (y ∷ filter p xs) (filter p xs))
        by true true rest = ap (λ l. y ∷ l) rest
        by true false rest = ap (λ l. y ∷ l) rest
        by false u rest = rest

-- cells that show so many kept entries, and one cell more
pub cells_more : (test : ℕ → Bool) (kept : List CellBody) (es : List (ℕ × CellEntry)) (i : ℕ) (b : CellBody) →
    slice_get es i ≡ Some (cell_entry b) → cells_of kept ≡ filter (λ e. test e.0) (take i es) → test b.number ≡ true
    → cells_of (kept ++ b ∷ []) ≡ filter (λ e. test e.0) (take (i + 1) es)
cells_more test kept es i b at shown passes =
    map_push cell_entry kept b ∙ ap (λ l. l ++ cell_entry b ∷ []) shown
    ∙ sym (kept_more (λ e. test e.0) es i (cell_entry b) at
    ∙ ap (λ t. cond t (filter (λ e. test e.0) (take i es) ++ cell_entry b ∷ []) (filter (λ e. test e.0) (take i es))) passes)

-- and one that isn't kept
pub cells_same : (test : ℕ → Bool) (kept : List CellBody) (es : List (ℕ × CellEntry)) (i : ℕ) (b : CellBody) →
    slice_get es i ≡ Some (cell_entry b) → cells_of kept ≡ filter (λ e. test e.0) (take i es) → test b.number ≡ false
    → cells_of kept ≡ filter (λ e. test e.0) (take (i + 1) es)
cells_same test kept es i b at shown fails =
    shown ∙ sym (kept_more (λ e. test e.0) es i (cell_entry b) at
    ∙ ap (λ t. cond t (filter (λ e. test e.0) (take i es) ++ cell_entry b ∷ []) (filter (λ e. test e.0) (take i es))) fails)

pub live_more : (kept : List CellBody) (b : CellBody) → AreLive kept → b.is_live ≡ true → AreLive (kept ++ b ∷ [])
live_more [] b all live = (live, tt)
live_more (d ∷ kept) b all live = (all.0, live_more kept b all.1 live)
