-- The cells that a draft keeps against the finite map that they stand for.
use Rattle.std.proofs.Common.{◌≡◌, ℕ, ◌+◌, ◌<◌, ◌≤◌, max, Bool, true, false, cond, T, ◌&&◌, List, [], ◌∷◌, length, map, Option, Some, None, is_some}
use Rattle.std.proofs.Common.{refl, sym, ap, ◌∙◌, subst, arith}
use Rattle.std.specs.Option.{option_map}
use Rattle.std.specs.List.{AllByRecursion}
use Rattle.std.specs.List.Sorted.{IsStrictlySortedBy}
use Rattle.std.specs.Ordering.{nat_cmp, is_eq, is_lt, match_ordering}
use Rattle.std.specs.declared.cmp.Ordering.{Ordering}
use Rattle.std.specs.declared.cmp.Ordering.TheVariants.{Less, Equal, Greater}
use Rattle.std.specs.Map.{lookup}
use Rattle.std.specs.BTreeMap.{is_at, insert_entry}
use Rattle.std.proofs.lemmas.Cmp.{ranked, nat_cmp_total}
use Rattle.std.proofs.lemmas.Map.Keys.{sorted_head, sorted_tail}
use Rattle.std.specs.FinMap.Entries.{below_all, by_order}
use Rattle.std.specs.FinMap.{keys, insert, contains_key, from_sorted, is_sorted, find, put, empty, entries-from_sorted, get-from_sorted}
use Rattle.std.specs.FinMap.{entries-insert, same_entries_map, empty_of_len, len-entries}
use Rattle.store_core.specs.declared.store.CellBody.{CellBody}
use Rattle.store_text.specs.declared.read.fields.SaidCell.{SaidCell}
use Rattle.store_core.specs.Stores.{CellEntry}
use Rattle.store_core.specs.StoreBodies.{cells_of, AreInOrder, IsKept}
use Rattle.store_text.specs.Reading.{next_after}
use Rattle.store_text.specs.DraftBodies.{said_cell, said_cells, IsUpToDate}

number_of : ℕ × SaidCell → ℕ
number_of e = e.0

below_said : (n : ℕ) (es : List (ℕ × SaidCell)) → AllByRecursion (λ y. nat_cmp n y ≡ Less) (map (λ e. e.0) es) → T (below_all nat_cmp n (said_cells es))
below_said n [] all = tt
below_said n (e ∷ es) all = subst (λ r. T (is_lt r && below_all nat_cmp n (said_cells es))) (sym all.0) (below_said n es all.1)

and_T : (x y : Bool) → T x → T y → T (x && y)
and_T true y p q = q
and_T false y p q = p

-- numbers in order are in the order of the map's keys
pub sorted_said : (es : List (ℕ × SaidCell)) → IsStrictlySortedBy nat_cmp (map (λ e. e.0) es) → T (is_sorted nat_cmp (said_cells es))
sorted_said [] rising = tt
sorted_said (e ∷ es) rising = and_T _ _ (below_said e.0 es (sorted_head nat_cmp e.0 (map (λ d. d.0) es) rising))
    (sorted_said es (sorted_tail nat_cmp e.0 (map (λ d. d.0) es) rising))

find-said : (q : ℕ) (es : List (ℕ × SaidCell)) → find nat_cmp q (said_cells es) ≡ option_map said_cell (lookup (is_at (nat_cmp q)) es)
find-said q [] = refl
find-said q (e ∷ es) = ap (cond (is_eq (nat_cmp q e.0)) (Some (said_cell e.1))) (find-said q es) ∙ by (is_eq (nat_cmp q e.0))
  where
    by : (t : Bool) → cond t (Some (said_cell e.1)) (option_map said_cell (lookup (is_at (nat_cmp q)) es)) ≡ option_map said_cell
        (cond t (Some e.1) (lookup (is_at (nat_cmp q)) es))
    by true = refl
    by false = refl

some_said : (o : Option SaidCell) → is_some (option_map said_cell o) ≡ is_some o
some_said None = refl
some_said (Some c) = refl

-- a number is a key of the map where the draft has a cell of it
pub contains_key-said : (es : List (ℕ × SaidCell)) (q : ℕ) → IsStrictlySortedBy nat_cmp (map (λ e. e.0) es) →
    contains_key (from_sorted {R = nat_cmp} (said_cells es)) q ≡ is_some (lookup (is_at (nat_cmp q)) es)
contains_key-said es q rising = ap is_some (get-from_sorted nat_cmp (said_cells es) q (sorted_said es rising) ∙ find-said q es) ∙
    some_said (lookup (is_at (nat_cmp q)) es)

put_by : (k : ℕ) (c : SaidCell) (e : ℕ × SaidCell) (es : List (ℕ × SaidCell)) (o : Ordering) →
    said_cells (insert_entry nat_cmp es k c) ≡ put nat_cmp k (said_cell c) (said_cells es)
    → said_cells (match_ordering o ((k, c) ∷ e ∷ es) ((e.0, c) ∷ es) (e ∷ insert_entry nat_cmp es k c))
    ≡ by_order o ((k, said_cell c) ∷ said_cells (e ∷ es)) ((e.0, said_cell c) ∷ said_cells es)
    ((e.0, said_cell e.1) ∷ put nat_cmp k (said_cell c) (said_cells es))
put_by k c e es Less deeper = refl
put_by k c e es Equal deeper = refl
put_by k c e es Greater deeper = ap (λ l. (e.0, said_cell e.1) ∷ l) deeper

put-said : (k : ℕ) (c : SaidCell) (es : List (ℕ × SaidCell)) → said_cells (insert_entry nat_cmp es k c) ≡ put nat_cmp k (said_cell c) (said_cells es)
put-said k c [] = refl
put-said k c (e ∷ es) = put_by k c e es (nat_cmp k e.0) (put-said k c es)

-- a cell more
pub insert-said : (es : List (ℕ × SaidCell)) (k : ℕ) (c : SaidCell) → IsStrictlySortedBy nat_cmp (map (λ e. e.0) es) →
    IsStrictlySortedBy nat_cmp (map (λ e. e.0) (insert_entry nat_cmp es k c))
    → from_sorted {R = nat_cmp} (said_cells (insert_entry nat_cmp es k c)) ≡ insert (from_sorted (said_cells es)) k (said_cell c)
insert-said es k c rising after =
    same_entries_map _ _ (entries-from_sorted nat_cmp (said_cells (insert_entry nat_cmp es k c)) (sorted_said (insert_entry nat_cmp es k c) after)
    ∙ put-said k c es ∙ ap (put nat_cmp k (said_cell c)) (sym (entries-from_sorted nat_cmp (said_cells es) (sorted_said es rising)))
    ∙ sym (entries-insert nat_cmp_total (from_sorted (said_cells es)) k (said_cell c)))

-- and what it makes of the next number
pub next_after-said : (es : List (ℕ × SaidCell)) (k : ℕ) (c : SaidCell) →
    next_after (map (λ e. e.0) (insert_entry nat_cmp es k c)) ≡ max (next_after (map (λ e. e.0) es)) (k + 1)
next_after-said [] k c = omega arith
next_after-said (e ∷ es) k c = by (nat_cmp k e.0) refl (next_after-said es k c)
  where
    by : (o : Ordering) → o ≡ nat_cmp k e.0 → next_after (map (λ d. d.0) (insert_entry nat_cmp es k c)) ≡ max (next_after (map (λ d. d.0) es)) (k + 1)
        → next_after (map (λ d. d.0) (match_ordering o ((k, c) ∷ e ∷ es) ((e.0, c) ∷ es) (e ∷ insert_entry nat_cmp es k c))) ≡ max
        (max (e.0 + 1) (next_after (map (λ d. d.0) es))) (k + 1)
    by Less is deeper = omega arith
    by Equal is deeper = let same : k ≡ e.0 = ranked k e.0 Equal is in omega arith
    by Greater is deeper = omega arith

-- no cell
pub no_said : from_sorted {R = nat_cmp} (said_cells []) ≡ empty
no_said = empty_of_len _ (len-entries _ ∙ ap length (entries-from_sorted nat_cmp (said_cells []) tt))

-- the keys of the map
pub keys-said : (es : List (ℕ × SaidCell)) → IsStrictlySortedBy nat_cmp (map (λ e. e.0) es) →
    keys (from_sorted {R = nat_cmp} (said_cells es)) ≡ map (λ e. e.0) es
keys-said es rising = ap (map (λ e. e.0)) (entries-from_sorted nat_cmp (said_cells es) (sorted_said es rising)) ∙ firsts es
  where
    firsts : (es : List (ℕ × SaidCell)) → map (λ e. e.0) (said_cells es) ≡ map (λ e. e.0) es
    firsts [] = refl
    firsts (e ∷ es) = ap (λ l. e.0 ∷ l) (firsts es)

-- ---- the cells of the store

-- the numbers of the bodies
pub numbers_same : (bodies : List CellBody) (es : List (ℕ × SaidCell)) → cells_of bodies ≡ said_cells es → map (λ b. b.number) bodies ≡ map (λ e. e.0) es
numbers_same bodies es same = sym (of_bodies bodies) ∙ ap (map (λ (e : ℕ × CellEntry). e.0)) same ∙ of_said es
  where
    of_bodies : (bodies : List CellBody) → map (λ (e : ℕ × CellEntry). e.0) (cells_of bodies) ≡ map (λ b. b.number) bodies
    of_bodies [] = refl
    of_bodies (b ∷ bodies) = ap (λ l. b.number ∷ l) (of_bodies bodies)

    of_said : (es : List (ℕ × SaidCell)) → map (λ (e : ℕ × CellEntry). e.0) (said_cells es) ≡ map (λ e. e.0) es
    of_said [] = refl
    of_said (e ∷ es) = ap (λ l. e.0 ∷ l) (of_said es)

above_each : (n : ℕ) (bodies : List CellBody) → AllByRecursion (λ y. nat_cmp n y ≡ Less) (map (λ b. b.number) bodies) →
    AllByRecursion (λ d. n < d.number) bodies
above_each n [] all = tt
above_each n (b ∷ bodies) all = (ranked n b.number Less (sym all.0), above_each n bodies all.1)

-- bodies with rising numbers are in order
pub in_order : (bodies : List CellBody) → IsStrictlySortedBy nat_cmp (map (λ b. b.number) bodies) → AreInOrder bodies
in_order [] rising = tt
in_order (b ∷ bodies) rising = (
  above_each b.number bodies (sorted_head nat_cmp b.number (map (λ d. d.number) bodies) rising),
  in_order bodies (sorted_tail nat_cmp b.number (map (λ d. d.number) bodies) rising),
)

all_below : (bodies : List CellBody) (above : ℕ) → next_after (map (λ b. b.number) bodies) ≤ above → AllByRecursion (λ b. b.number < above) bodies
all_below [] above le = tt
all_below (b ∷ bodies) above le = (omega arith, all_below bodies above (omega arith))

-- and below the next
pub kept_said : (bodies : List CellBody) (es : List (ℕ × SaidCell)) (above : ℕ) → cells_of bodies ≡ said_cells es →
    AreInOrder bodies → IsUpToDate es above → IsKept bodies above
kept_said bodies es above same order date = record {
  rising = order;
  below = all_below bodies above (let e = ap next_after (numbers_same bodies es same) in omega (arith, e, date.next));
}
