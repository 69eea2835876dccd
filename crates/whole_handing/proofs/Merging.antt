-- The live cells of two stores, by rising number.
use Rattle.std.proofs.Common.{◌≡◌, ◌⊎◌, ◌+◌, ◌<◌, ◌≤◌, inl, inr, ℕ, zero, suc, Bool, true, false, cond, T, List, [], ◌∷◌, ◌++◌, length, take, drop}
use Rattle.std.proofs.Common.{slice_get, Option, Some, None, IsSome, is_some, refl, sym, ap, ap₂, ◌∙◌, subst, arith}
use Rattle.std.specs.List.{AllByRecursion}
use Rattle.std.specs.Prelude.{option_map}
use Rattle.std.specs.Ordering.{nat_cmp, eq_by_cmp}
use Rattle.std.specs.FinMap.Entries.{below_all}
use Rattle.std.specs.FinMap.{entries, keys, entries_sorted, from_sorted, from_entries, find, is_sorted, get-from_sorted, get-from_entries, get-entries}
use Rattle.std.specs.FinMap.{same_map, nat_cmp-IsAntisymmetric}
use Rattle.std.proofs.lemmas.Bool.{cases_lt, false≢true}
use Rattle.std.proofs.lemmas.Cmp.{nat_cmp_total}
use Rattle.std.proofs.lemmas.List.{length-map, take_more, take_all, take-append-drop, map_push}
use Rattle.std.proofs.lemmas.Option.{slice_get_within, get_or_from_slice_get, slice_get-map}
use Rattle.store_core.specs.declared.store.CellBody.{CellBody}
use Rattle.store_core.specs.Stores.{StoreMap, CellEntry, IsLive, IsAbove}
use Rattle.store_core.specs.StoreBodies.{cell_entry, cells_of, AreInOrder, AreLive, IsKept}
use Rattle.store_core.proofs.AboveLemmas.{tied, ties, differs, live_below}
use Rattle.store_core.proofs.Cells.{sorted_cells}
use Rattle.store_core.proofs.Growing.{AllByRecursion-push}
use Rattle.store_core.proofs.FreshLemmas.{AllByRecursion-from}
use Rattle.routing_walks.proofs.KeyLemmas.{both_first, both_second, is_less}
use Rattle.routing_expr.proofs.RegionLemmas.{live_more}
use Rattle.whole_handing.specs.declared.beside.Which.{Which}
use Rattle.whole_handing.specs.declared.beside.Which.TheVariants as which
use Rattle.whole_handing.specs.Beside.{AreApart, IsSmaller, IsNextOf, IsNext, AreAll}
use Rattle.whole_handing.proofs.RestrictingLemmas.{past_end}

abbrev Entry : Type 0
Entry = ℕ × CellEntry

-- ---- a number among entries

-- the entry's value where the number is its own
abbrev one : Entry → ℕ → Option CellEntry
one e q = cond (eq_by_cmp nat_cmp q e.0) (Some e.1) None

-- found among the first, or else among the others
abbrev either : Option CellEntry → Option CellEntry → Option CellEntry
either a b = cond (is_some a) a b

either-same : (a b c : Option CellEntry) → either (either a b) c ≡ either a (either b c)
either-same None b c = refl
either-same (Some x) b c = refl

find_both : (q : ℕ) (xs ys : List Entry) → find nat_cmp q (xs ++ ys) ≡ either (find nat_cmp q xs) (find nat_cmp q ys)
find_both q [] ys = refl
find_both q (e ∷ xs) ys =
    elim (eq_by_cmp nat_cmp q e.0) as (λ b. cond b (Some e.1) (find nat_cmp q (xs ++ ys))
    ≡ either (cond b (Some e.1) (find nat_cmp q xs)) (find nat_cmp q ys)) [
      | true ↦ refl
      | false ↦ find_both q xs ys
    ]

-- two of which one is none may be read in either order
swap : (a b : Option CellEntry) → (IsSome a → IsSome b → ⊥) → either a b ≡ either b a
swap None None apart = refl
swap None (Some y) apart = refl
swap (Some x) None apart = refl
swap (Some x) (Some y) apart = absurd (apart refl refl)

-- ---- entries in order

all_above : (n : ℕ) (xs : List Entry) → T (below_all nat_cmp n xs) → (k : ℕ) (d : Entry) → slice_get xs k ≡ Some d → n < d.0
all_above n [] below k d is = absurd cc
all_above n (y ∷ xs) below zero d is =
    let same : y ≡ d = cc in subst (λ (z : Entry). n < z.0) same (is_less n y.0 (both_first _ _ below))
all_above n (y ∷ xs) below (suc k) d is = all_above n xs (both_second _ _ below) k d is

-- the entry at a place is found under its number
entry_found : (es : List Entry) → T (is_sorted nat_cmp es) → (i : ℕ) (e : Entry) → slice_get es i ≡ Some e → find nat_cmp e.0 es ≡ Some e.1
entry_found [] sorted i e is = absurd cc
entry_found (x ∷ es) sorted zero e is =
    let same : x ≡ e = cc in
    ap (λ (t : Bool). cond t (Some x.1) (find nat_cmp e.0 es)) (ties e.0 x.0 (ap (λ (y : Entry). y.0) (sym same))) ∙ ap (λ (y : Entry). Some y.1) same
entry_found (x ∷ es) sorted (suc i) e is =
    let less : x.0 < e.0 = all_above x.0 es (both_first _ _ sorted) i e is in
    ap (λ (t : Bool). cond t (Some x.1) (find nat_cmp e.0 es)) (differs e.0 x.0 (λ same. omega (arith, less, same)))
    ∙ entry_found es (both_second _ _ sorted) i e is

-- the next entry has a greater number
entry_later : (es : List Entry) → T (is_sorted nat_cmp es) → (i : ℕ) (e f : Entry) → slice_get es i ≡ Some e → slice_get es (suc i) ≡ Some f → e.0 < f.0
entry_later [] sorted i e f is also = absurd cc
entry_later (x ∷ es) sorted zero e f is also =
    let same : x ≡ e = cc in subst (λ (y : Entry). y.0 < f.0) same (all_above x.0 es (both_first _ _ sorted) 0 f also)
entry_later (x ∷ es) sorted (suc i) e f is also = entry_later es (both_second _ _ sorted) i e f is also

some_left : (a b : Option CellEntry) → IsSome a → IsSome (either a b)
some_left None b some = absurd (false≢true some)
some_left (Some x) b some = refl

-- what is among the first entries is among all
found_taken : (q i : ℕ) (es : List Entry) → IsSome (find nat_cmp q (take i es)) → IsSome (find nat_cmp q es)
found_taken q i es some =
    subst (λ (xs : List Entry). IsSome (find nat_cmp q xs)) (take-append-drop i es)
    (subst IsSome (sym (find_both q (take i es) (drop i es))) (some_left (find nat_cmp q (take i es)) (find nat_cmp q (drop i es)) some))

-- one entry more among the first
found_more : (q i : ℕ) (es : List Entry) (e : Entry) → slice_get es i ≡ Some e → find nat_cmp q (take (i + 1) es) ≡ either (find nat_cmp q (take i es))
    (one e q)
found_more q i es e is =
    ap (find nat_cmp q) (take_more es i e (slice_get_within es i e is) ∙ ap (λ (x : Entry). take i es ++ x ∷ []) (get_or_from_slice_get es i e e is))
    ∙ find_both q (take i es) (e ∷ [])

-- ---- cells in order

order_push : (made : List CellBody) (b : CellBody) → AreInOrder made → AllByRecursion (λ (d : CellBody). d.number < b.number) made → AreInOrder (made ++ b ∷ [])
order_push [] b rising below = (tt, tt)
order_push (d ∷ made) b rising below =
    (AllByRecursion-push (λ (x : CellBody). d.number < x.number) made b rising.0 below.0, order_push made b rising.1 below.1)

all_lower : (n m : ℕ) → n < m → (made : List CellBody) → AllByRecursion (λ (d : CellBody). d.number < n) made → AllByRecursion
    (λ (d : CellBody). d.number < m) made
all_lower n m less [] all = tt
all_lower n m less (d ∷ made) all = let low = all.0 in (omega (arith, low, less), all_lower n m less made all.1)

-- ---- the next cell

place_within : (s : StoreMap) (i : ℕ) (b : CellBody) → Some (cell_entry b) ≡ slice_get (entries s.cells) i → i < length (keys s.cells)
place_within s i b there =
    let low = slice_get_within (entries s.cells) i (cell_entry b) (sym there) in
    let same : length (keys s.cells) ≡ length (entries s.cells) = length-map (entries s.cells) (λ (e : Entry). e.0) in
    subst (λ (n : ℕ). i < n) (sym same) low

module _ (s t : StoreMap) (i j : ℕ) where
  -- at the end of the other store
  pub next_alone : (b : CellBody) → Some (cell_entry b) ≡ slice_get (entries s.cells) i → b.is_live ≡ true → None ≡ slice_get (entries t.cells) j →
      IsNextOf s t i j b
  next_alone b there live none = record { here = sym there; live = live; within = place_within s i b there; before = λ e is. none_some e (none ∙ is) }
    where
      none_some : (e : Entry) → None ≡ Some e → b.number ≤ e.0
      none_some e is = absurd cc

  next_before : (b d : CellBody) → Some (cell_entry b) ≡ slice_get (entries s.cells) i → b.is_live ≡ true →
      Some (cell_entry d) ≡ slice_get (entries t.cells) j → b.number ≤ d.number → IsNextOf s t i j b
  next_before b d there live other less = record {
    here = sym there;
    live = live;
    within = place_within s i b there;
    before = λ e is. subst (λ (x : Entry). b.number ≤ x.0) (same (cell_entry d) e (other ∙ is)) less;
  }
    where
      same : (x y : Entry) → Some x ≡ Some y → x ≡ y
      same x y e = cc

-- the one with the smaller number of two
pub next_smaller : (s t : StoreMap) (i j : ℕ) (b d : CellBody) (w : Which) → Some (cell_entry b) ≡ slice_get (entries s.cells) i → b.is_live ≡ true →
    Some (cell_entry d) ≡ slice_get (entries t.cells) j → d.is_live ≡ true → IsSmaller b d w → IsNext s t i j (Some w)
next_smaller s t i j b d (which.First x) there live other other_live is =
    subst (IsNextOf s t i j) (sym is.0) (next_before s t i j b d there live other (let less = is.1 in omega (arith, less)))
next_smaller s t i j b d (which.Second x) there live other other_live is =
    subst (IsNextOf t s j i) (sym is.0) (next_before t s j i d b other other_live there is.1)

-- ---- the loop

-- the cells up to these places are made, and all of them are below those at the places
pub record AreMerged (s t : StoreMap) (i j : ℕ) (made : List CellBody) : Type 0 where
  pub live : AreLive made
  pub rising : AreInOrder made
  pub found : (q : ℕ) →
      find nat_cmp q (cells_of made) ≡ either (find nat_cmp q (take i (entries s.cells))) (find nat_cmp q (take j (entries t.cells)))
  pub first : (e : Entry) → slice_get (entries s.cells) i ≡ Some e → AllByRecursion (λ (b : CellBody). b.number < e.0) made
  pub second : (e : Entry) → slice_get (entries t.cells) j ≡ Some e → AllByRecursion (λ (b : CellBody). b.number < e.0) made

pub none_merged : (s t : StoreMap) → AreMerged s t 0 0 []
none_merged s t = record { live = tt; rising = tt; found = λ q. refl; first = λ e is. tt; second = λ e is. tt }

-- a number that is found is that of a live cell
live_found : (s : StoreMap) (q : ℕ) → IsSome (find nat_cmp q (entries s.cells)) → IsLive s (record { 0 = q })
live_found s q some = subst IsSome (sym (get-entries s.cells q)) some

one_at : (e : Entry) (q : ℕ) → IsSome (one e q) → q ≡ e.0
one_at e q some = by (eq_by_cmp nat_cmp q e.0) refl
  where
    by : (b : Bool) → eq_by_cmp nat_cmp q e.0 ≡ b → q ≡ e.0
    by true is = tied q e.0 is
    by false is = absurd (false≢true (ap is_some (sym (ap (λ (t : Bool). cond t (Some e.1) None) is)) ∙ some))

module _ (s t : StoreMap) (apart : AreApart s t) where
  abbrev es : List Entry
  es = entries s.cells

  abbrev fs : List Entry
  fs = entries t.cells

  -- the entry at a place of the first is live there
  live_at : (i : ℕ) (e : Entry) → slice_get es i ≡ Some e → IsLive s (record { 0 = e.0 })
  live_at i e is = live_found s e.0 (ap is_some (entry_found es (entries_sorted s.cells) i e is))

  pub flipped : (i j : ℕ) (made : List CellBody) → AreMerged s t i j made → AreMerged t s j i made
  flipped i j made merged = record {
    live = merged.live;
    rising = merged.rising;
    found = λ q. merged.found q ∙ swap (find nat_cmp q (take i es)) (find nat_cmp q (take j fs))
        (λ own theirs. apart (record { 0 = q }) (live_found s q (found_taken q i es own)) (live_found t q (found_taken q j fs theirs)));
    first = merged.second;
    second = merged.first;
  }

  -- a cell of the first more
  pub merged_first : (i j : ℕ) (made : List CellBody) (b : CellBody) → AreMerged s t i j made → IsNextOf s t i j b →
      AreMerged s t (i + 1) j (made ++ b ∷ [])
  merged_first i j made b merged next = record {
    live = live_more made b merged.live next.live;
    rising = order_push made b merged.rising below;
    found = λ q.
        ap (find nat_cmp q) (map_push cell_entry made b)
        ∙ find_both q (cells_of made) (e ∷ [])
        ∙ ap (λ (o : Option CellEntry). either o (one e q)) (merged.found q)
        ∙ either-same (find nat_cmp q (take i es)) (find nat_cmp q (take j fs)) (one e q)
        ∙ ap (λ (o : Option CellEntry). either (find nat_cmp q (take i es)) o) (swap (find nat_cmp q (take j fs)) (one e q) (λ theirs own. both q theirs own))
        ∙ sym (either-same (find nat_cmp q (take i es)) (one e q) (find nat_cmp q (take j fs)))
        ∙ ap (λ (o : Option CellEntry). either o (find nat_cmp q (take j fs))) (sym (found_more q i es e next.here));
    first = λ f is.
        let less = later f is in AllByRecursion-push (λ (d : CellBody). d.number < f.0) made b (all_lower e.0 f.0 less made below) less;
    second = λ f is. AllByRecursion-push (λ (d : CellBody). d.number < f.0) made b (merged.second f is) (below_other f is);
  }
    where
      e : Entry
      e = cell_entry b

      below : AllByRecursion (λ (d : CellBody). d.number < b.number) made
      below = merged.first e next.here

      live_here : IsLive s (record { 0 = b.number })
      live_here = live_at i e next.here

      both : (q : ℕ) → IsSome (find nat_cmp q (take j fs)) → IsSome (one e q) → ⊥
      both q theirs own =
          let same : q ≡ b.number = one_at e q own in
          apart (record { 0 = q }) (subst (λ (n : ℕ). IsLive s (record { 0 = n })) (sym same) live_here) (live_found t q (found_taken q j fs theirs))

      later : (f : Entry) → slice_get es (i + 1) ≡ Some f → b.number < f.0
      later f is =
          let plus : i + 1 ≡ suc i = omega arith in
          entry_later es (entries_sorted s.cells) i e f next.here (subst (λ (n : ℕ). slice_get es n ≡ Some f) plus is)

      below_other : (f : Entry) → slice_get fs j ≡ Some f → b.number < f.0
      below_other f is = elim (cases_lt b.number f.0) [
        | inl less ↦ less
        | inr more ↦
            let low = next.before f is in
            let same : b.number ≡ f.0 = omega (arith, low, more) in
            absurd (apart (record { 0 = b.number }) live_here
            (subst (λ (n : ℕ). IsLive t (record { 0 = n })) (sym same)
            (live_found t f.0 (ap is_some (entry_found fs (entries_sorted t.cells) j f is)))))
      ]

  -- at both ends all are made
  pub merged_all : (i j : ℕ) (made : List CellBody) → AreMerged s t i j made → slice_get es i ≡ None → slice_get fs j ≡ None → AreAll s t made
  merged_all i j made merged one_end other_end = record {
    live = merged.live;
    rising = merged.rising;
    found = λ q.
        merged.found q
        ∙ ap₂ (λ (xs ys : List Entry). either (find nat_cmp q xs) (find nat_cmp q ys)) (take_all i es (past_end es i one_end))
        (take_all j fs (past_end fs j other_end))
        ∙ sym (find_both q es fs);
  }

-- a cell of the second more
pub merged_second : (s t : StoreMap) → AreApart s t → (i j : ℕ) (made : List CellBody) (b : CellBody) → AreMerged s t i j made → IsNextOf t s j i b →
    AreMerged s t i (j + 1) (made ++ b ∷ [])
merged_second s t apart i j made b merged next =
    let turned : AreApart t s = λ c theirs own. apart c own theirs in
    flipped t s turned (j + 1) i (made ++ b ∷ []) (merged_first t s turned j i made b (flipped s t apart i j made merged) next)

-- ---- the store of all

either_of : (a b : Option CellEntry) → IsSome (either a b) → IsSome a ⊎ IsSome b
either_of None b some = inr some
either_of (Some x) b some = inl refl

module _ (s t : StoreMap) (made : List CellBody) (all : AreAll s t made) where
  pub all_kept : IsAbove s → IsAbove t → (next : ℕ) → s.next ≤ next → t.next ≤ next → IsKept made next
  all_kept above other_above next later other_later = record {
    rising = all.rising;
    below = AllByRecursion-from (λ (b : CellBody). b.number < next) made (λ k b is.
        let there = entry_found (cells_of made) (sorted_cells made all.rising) k (cell_entry b)
        (slice_get-map cell_entry made k ∙ ap (option_map cell_entry) is) in
        let some : IsSome (find nat_cmp b.number (entries s.cells ++ entries t.cells)) = ap is_some (sym (all.found b.number) ∙ there) in
        elim (either_of (find nat_cmp b.number (entries s.cells)) (find nat_cmp b.number (entries t.cells))
        (subst IsSome (find_both b.number (entries s.cells) (entries t.cells)) some)) [
          | inl own ↦ (let low = live_below s (record { 0 = b.number }) above (live_found s b.number own) in omega (arith, low, later))
          | inr theirs ↦ (let low = live_below t (record { 0 = b.number }) other_above (live_found t b.number theirs) in omega (arith, low, other_later))
        ]);
  }

  pub all_is : from_sorted {R = nat_cmp} (cells_of made) ≡ from_entries (entries s.cells ++ entries t.cells)
  all_is = same_map nat_cmp_total nat_cmp-IsAntisymmetric _ _ (λ q.
      get-from_sorted nat_cmp (cells_of made) q (sorted_cells made all.rising) ∙ all.found q
      ∙ sym (get-from_entries nat_cmp_total (entries s.cells ++ entries t.cells) q))
