-- The numbers of a store's live cells, by places.
use Rattle.std.proofs.Common.{◌≡◌, ◌≢◌, ℕ, zero, suc, ◌<◌, Bool, true, false, cond, T, ◌&&◌, List, [], ◌∷◌, map, Option, Some, IsSome, refl, sym, ap}
use Rattle.std.proofs.Common.{subst, arith, slice_get, inl, inr}
use Rattle.std.specs.Ordering.{nat_cmp, eq_by_cmp, is_lt}
use Rattle.std.proofs.lemmas.Bool.{cases_eq, false≢true}
use Rattle.std.proofs.lemmas.Bool.Decides.{nat_tests}
use Rattle.std.specs.FinMap.Entries.{below_all}
use Rattle.std.specs.FinMap.{entries, entries_sorted, get-entries, keys, is_sorted, find}
use Rattle.store_core.specs.declared.ids.CellId.{CellId}
use Rattle.store_core.specs.Stores.{StoreMap, CellEntry, IsLive}

pub both_first : (x y : Bool) → T (x && y) → T x
both_first true y p = tt
both_first false y p = p

pub both_second : (x y : Bool) → T (x && y) → T y
both_second true y p = p
both_second false y p = absurd p

pub is_less : (a b : ℕ) → T (is_lt (nat_cmp a b)) → a < b
is_less a b t = grind (arith, nat_tests)

-- a key below all is below the one at a place
below_at : (n : ℕ) (es : List (ℕ × CellEntry)) (j b : ℕ) → T (below_all nat_cmp n es) → slice_get (map (λ e. e.0) es) j ≡ Some b → n < b
below_at n [] j b below at = absurd (cc)
below_at n (e ∷ es) zero b below at = let same : e.0 ≡ b = cc in subst (λ m. n < m) same (is_less n e.0 (both_first _ _ below))
below_at n (e ∷ es) (suc j) b below at = below_at n es j b (both_second _ _ below) at

rise_at : (es : List (ℕ × CellEntry)) → T (is_sorted nat_cmp es) → (i j a b : ℕ) → i < j → slice_get (map (λ e. e.0) es) i ≡ Some a →
    slice_get (map (λ e. e.0) es) j ≡ Some b → a < b
rise_at [] sorted i j a b lt at_i at_j = absurd (cc)
rise_at (e ∷ es) sorted i zero a b lt at_i at_j = absurd (omega arith)
rise_at (e ∷ es) sorted zero (suc j) a b lt at_i at_j = let same : e.0 ≡ a = cc in subst (λ m. m < b) same (below_at e.0 es j b (both_first _ _ sorted) at_j)
rise_at (e ∷ es) sorted (suc i) (suc j) a b lt at_i at_j = rise_at es (both_second _ _ sorted) i j a b (omega arith) at_i at_j

found_at : (es : List (ℕ × CellEntry)) (q : ℕ) → IsSome (find nat_cmp q es) → (j : ℕ) × (slice_get (map (λ e. e.0) es) j ≡ Some q)
found_at [] q h = absurd (false≢true h)
found_at (e ∷ es) q h = elim (cases_eq q e.0) [
  | inl same ↦ (0, ap Some (sym same))
  | inr apart ↦ let rest = found_at es q (subst (λ t. IsSome (cond t (Some e.1) (find nat_cmp q es))) (differs q e.0 apart) h) in (suc rest.0, rest.1)
]
  where
    differs : (x y : ℕ) → x ≢ y → eq_by_cmp nat_cmp x y ≡ false
    differs x y ne = grind (arith, nat_tests)

found_either : {X : Type 0} (t : Bool) (x : X) (o : Option X) → IsSome o → IsSome (cond t (Some x) o)
found_either true x o h = refl
found_either false x o h = h

finds_at : (es : List (ℕ × CellEntry)) (q j : ℕ) → slice_get (map (λ e. e.0) es) j ≡ Some q → IsSome (find nat_cmp q es)
finds_at [] q j at = absurd (cc)
finds_at (e ∷ es) q zero at = let same : e.0 ≡ q = cc in subst (λ t. IsSome (cond t (Some e.1) (find nat_cmp q es))) (sym (itself q e.0 same)) refl
  where
    itself : (x y : ℕ) → y ≡ x → eq_by_cmp nat_cmp x y ≡ true
    itself x y same = grind (arith, nat_tests)
finds_at (e ∷ es) q (suc j) at = found_either (eq_by_cmp nat_cmp q e.0) e.1 (find nat_cmp q es) (finds_at es q j at)

module _ (s : StoreMap) where
  -- the numbers rise
  pub keys-rise : (i j a b : ℕ) → i < j → slice_get (keys s.cells) i ≡ Some a → slice_get (keys s.cells) j ≡ Some b → a < b
  keys-rise = rise_at (entries s.cells) (entries_sorted s.cells)

  -- each live cell has a place
  pub key_of_live : (c : CellId) → IsLive s c → (j : ℕ) × (slice_get (keys s.cells) j ≡ Some c.0)
  key_of_live c h = found_at (entries s.cells) c.0 (subst IsSome (get-entries s.cells c.0) h)

  -- each place has a live cell
  pub live_of_key : (c : CellId) (j : ℕ) → slice_get (keys s.cells) j ≡ Some c.0 → IsLive s c
  live_of_key c j at = subst IsSome (sym (get-entries s.cells c.0)) (finds_at (entries s.cells) c.0 j at)
