-- The kept cells against the finite map that they stand for.
use Rattle.std.proofs.Common.{◌≡◌, ◌≢◌, ℕ, zero, suc, ◌<◌, ◌≤◌, Bool, true, false, cond, T, List, [], ◌∷◌, length, map, Option, Some, None, Result}
use Rattle.std.proofs.Common.{Ok, Err, IfSome, IfNone, refl, sym, ap, ◌∙◌, subst, arith, slice_get, get_or, ◌&&◌, inl, inr, Bor, IsSomeAnd}
use Rattle.std.specs.Option.{option_map, option_copied}
use Rattle.std.specs.Result.{result_ok}
use Rattle.std.specs.List.{AllByRecursion}
use Rattle.std.specs.List.Sorted.{IsSearchInRange, IsBinarySearchResult, IsNonDecreasingBy}
use Rattle.std.specs.Ordering.{nat_cmp, ordering_index, eq_by_cmp, is_eq, is_lt}
use Rattle.std.specs.declared.cmp.Ordering.TheVariants.{Less, Equal, Greater}
use Rattle.std.specs.Cmp.{nat_cmp_is}
use Rattle.std.proofs.lemmas.Cmp.{ranked}
use Rattle.std.proofs.lemmas.Bool.Decides.{nat_tests}
use Rattle.std.proofs.lemmas.Option.{slice_get-map, slice_get_within, get_or_from_slice_get, slice_get-get_or}
use Rattle.std.proofs.lemmas.List.{length-map}
use Rattle.std.proofs.lemmas.Bool.{cases_lt}
use Rattle.std.specs.FinMap.Entries.{below_all}
use Rattle.std.specs.FinMap.{get, entries, keys, from_sorted, is_sorted, find, entries-from_sorted, get-from_sorted, empty, empty_of_len, len-entries}
use Rattle.store_core.specs.declared.ids.CellId.{CellId}
use Rattle.store_core.specs.declared.store.CellBody.{CellBody}
use Rattle.store_core.specs.declared.value.Value.{Value}
use Rattle.store_core.specs.Stores.{StoreMap, CellEntry, cell_of, IsAbove}
use Rattle.store_core.specs.StoreBodies.{cell_entry, cells_of, AreInOrder, LacksNumber, store_of, IsKept}
use Rattle.store_core.proofs.Bodies.{AllByRecursion-at}
use Rattle.store_core.proofs.Adding.{at_known}

pub less_cmp : (a b : ℕ) → a < b → nat_cmp a b ≡ Less
less_cmp a b h = sym (nat_cmp_is a b Less h)

pub same_cmp : (a b : ℕ) → a ≡ b → nat_cmp a b ≡ Equal
same_cmp a b h = sym (nat_cmp_is a b Equal h)

pub more_cmp : (a b : ℕ) → b < a → nat_cmp a b ≡ Greater
more_cmp a b h = sym (nat_cmp_is a b Greater h)

-- the order of the numbers by places
order_at : (bodies : List CellBody) → AreInOrder bodies → (i j : ℕ) (d : CellBody) → i < j → j < length bodies →
    (get_or bodies i d).number < (get_or bodies j d).number
order_at [] order i j d lt within = absurd (omega arith)
order_at (b ∷ bodies) order i zero d lt within = absurd (omega arith)
order_at (b ∷ bodies) order zero (suc j) d lt within = AllByRecursion-at (λ e. b.number < e.number) bodies j
    (get_or bodies j d) order.0 (slice_get-get_or bodies j d (omega arith))
order_at (b ∷ bodies) order (suc i) (suc j) d lt within = order_at bodies order.1 i j d (omega arith) (omega arith)

below_cells : (n : ℕ) (bodies : List CellBody) → AllByRecursion (λ d. n < d.number) bodies → T (below_all nat_cmp n (cells_of bodies))
below_cells n [] below = tt
below_cells n (b ∷ bodies) below = subst (λ r. T (is_lt r && below_all nat_cmp n (cells_of bodies)))
    (sym (less_cmp n b.number below.0)) (below_cells n bodies below.1)

pub and_T : (x y : Bool) → T x → T y → T (x && y)
and_T true y p q = q
and_T false y p q = p

-- rising numbers are in the order of the map's keys
pub sorted_cells : (bodies : List CellBody) → AreInOrder bodies → T (is_sorted nat_cmp (cells_of bodies))
sorted_cells [] order = tt
sorted_cells (b ∷ bodies) order = and_T _ _ (below_cells b.number bodies order.0) (sorted_cells bodies order.1)

-- the entries of the map are the cells
pub entries_of-cells : (bodies : List CellBody) → AreInOrder bodies → entries (from_sorted {R = nat_cmp} (cells_of bodies)) ≡ cells_of bodies
entries_of-cells bodies order = entries-from_sorted nat_cmp (cells_of bodies) (sorted_cells bodies order)

lacks : (bodies : List CellBody) (q : ℕ) → ((i : ℕ) (d : CellBody) → i < length bodies → (get_or bodies i d).number ≢ q) → LacksNumber bodies q
lacks [] q apart = tt
lacks (b ∷ bodies) q apart = (apart 0 b (omega arith), lacks bodies q (λ i d within. apart (suc i) d (omega arith)))

-- what a search by halving says of the cells
pub record Searched (bodies : List CellBody) (q : ℕ) (o : Option ℕ) : Type 0 where
  pub missing : IfNone o (LacksNumber bodies q)
  pub found : IfSome o (λ i. IsSomeAnd (slice_get bodies i) (λ b. b.number ≡ q))

module _ (bodies : List CellBody) (order : AreInOrder bodies) (c : CellId) where
  comparisons_rise : IsNonDecreasingBy (λ (b : CellBody). ordering_index (nat_cmp b.number c.0)) bodies
  comparisons_rise i j d le within =
      let rises : (get_or bodies i d).number ≤ (get_or bodies j d).number =
      grind (arith, order_at bodies order i j d, λ (same : i ≡ j). ap (λ k. (get_or bodies k d).number) same) in
      grind (arith, nat_tests)

  pub searched : (r : Result ℕ ℕ) → IsSearchInRange r (length bodies) →
      IsBinarySearchResult (λ (b : CellBody). nat_cmp b.number c.0) bodies r → Searched bodies c.0 (result_ok r)
  searched (Ok i) range equal =
      let known = at_known bodies i range in
      record {
        missing = tt;
        found = subst (λ (o : Option CellBody). IsSomeAnd o (λ b. b.number ≡ c.0)) (sym known.1) (ranked known.0.number c.0 Equal
            (sym (subst (λ (b : CellBody). nat_cmp b.number c.0 ≡ Equal) (get_or_from_slice_get bodies i known.0 known.0 known.1) (equal known.0))));
      }
  searched (Err i) range parted = record { missing = lacks bodies c.0 apart; found = tt }
    where
      apart : (k : ℕ) (d : CellBody) → k < length bodies → (get_or bodies k d).number ≢ c.0
      apart k d within same = elim (cases_lt k i) [
        | inl before ↦ omega (arith, ranked _ c.0 _ (sym ((parted comparisons_rise).0 k d (omega arith) before)))
        | inr after ↦ omega (arith, ranked _ c.0 _ (sym ((parted comparisons_rise).1 k d after within)))
      ]

-- what the kept cells show at a place
pub slice_get-cells : (bodies : List CellBody) (order : AreInOrder bodies) (vars : List Value) (next : ℕ) (s : StoreMap) →
    store_of bodies vars next ≡ s → (place : ℕ)
    → slice_get (entries s.cells) place ≡ option_map cell_entry (slice_get bodies place)
slice_get-cells bodies order vars next s is place =
    ap (λ (t : StoreMap). slice_get (entries t.cells) place) (sym is) ∙ ap (λ es. slice_get es place)
    (entries_of-cells bodies order) ∙ slice_get-map cell_entry bodies place

-- the numbers of the live cells are below the next
pub IsAbove-cells : (bodies : List CellBody) (vars : List Value) (next : ℕ) (s : StoreMap) → store_of bodies vars next ≡ s → IsKept bodies next → IsAbove s
IsAbove-cells bodies vars next s is kept =
    subst IsAbove is (subst (λ es. AllByRecursion (λ n. n < next) (map (λ e. e.0) es)) (sym (entries_of-cells bodies kept.rising)) (numbers bodies kept.below))
  where
    numbers : (bodies : List CellBody) → AllByRecursion (λ b. b.number < next) bodies → AllByRecursion (λ n. n < next) (map (λ e. e.0) (cells_of bodies))
    numbers [] all = tt
    numbers (b ∷ bodies) all = (all.0, numbers bodies all.1)

abbrev cell_id : ℕ → CellId
cell_id n = record { 0 = n }

abbrev first : ℕ × CellEntry → ℕ
first e = e.0

numbered : (o : Option CellBody) → option_map (λ (b : CellBody). cell_id b.number) o ≡ option_map cell_id (option_map first (option_map cell_entry o))
numbered None = refl
numbered (Some b) = refl

-- the live cell at a place by number
pub number_at : (bodies : List CellBody) (order : AreInOrder bodies) (vars : List Value) (next : ℕ) (s : StoreMap) →
    store_of bodies vars next ≡ s → (place : ℕ) (o : Option CellBody)
    → slice_get bodies place ≡ o → option_map (λ (b : CellBody). cell_id b.number) o ≡ option_map cell_id (slice_get (keys s.cells) place)
number_at bodies order vars next s is place o at =
    numbered o ∙ ap (λ p. option_map cell_id (option_map first p)) (sym (slice_get-cells bodies order vars next s is place ∙ ap (option_map cell_entry) at))
    ∙ ap (option_map cell_id) (sym (slice_get-map first (entries s.cells) place))

-- what is read through references is what they point to
pub shown : (o : Option (Bor CellBody)) → option_map (λ b. cell_entry b.now) o ≡ option_map cell_entry (option_copied o)
shown None = refl
shown (Some b) = refl

pub shown_cell : (o : Option (Bor CellBody)) (p : Option CellBody) → option_copied o ≡ p →
    option_map (λ b. (cell_entry b.now).1) o ≡ option_map (λ b. (cell_entry b).1) p
shown_cell None p is = ap (option_map (λ (b : CellBody). (cell_entry b).1)) is
shown_cell (Some b) p is = ap (option_map (λ (d : CellBody). (cell_entry d).1)) is

-- no cell
pub no_cells : from_sorted {R = nat_cmp} (cells_of []) ≡ empty
no_cells = empty_of_len _ (len-entries _ ∙ ap length (entries_of-cells [] tt))

-- how many cells are live
pub count_is : (bodies : List CellBody) (order : AreInOrder bodies) (vars : List Value) (next : ℕ) (s : StoreMap) →
    store_of bodies vars next ≡ s → length (keys s.cells) ≡ length bodies
count_is bodies order vars next s is =
    ap (λ (t : StoreMap). length (keys t.cells)) (sym is) ∙ length-map (entries (from_sorted {R = nat_cmp} (cells_of bodies))) (λ e. e.0)
    ∙ ap length (entries_of-cells bodies order) ∙ length-map bodies cell_entry
