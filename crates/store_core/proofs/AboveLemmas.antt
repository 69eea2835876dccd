-- A number that is above those of all live cells.
use Rattle.std.proofs.Common.{◌≡◌, ◌≢◌, ℕ, ◌<◌, ◌||◌, Bool, true, false, List, [], ◌∷◌, refl, sym, ◌∙◌, subst, arith, inl, inr}
use Rattle.std.specs.List.{list_any, AllByRecursion}
use Rattle.std.specs.Ordering.{nat_cmp, eq_by_cmp}
use Rattle.std.proofs.lemmas.Bool.{or_cases, false≢true}
use Rattle.std.proofs.lemmas.Bool.Decides.{nat_tests}
use Rattle.std.specs.FinMap.{keys, contains_key-keys}
use Rattle.store_core.specs.declared.ids.CellId.{CellId}
use Rattle.store_core.specs.Stores.{StoreMap, IsLive, IsAbove}

pub tied : (q k : ℕ) → eq_by_cmp nat_cmp q k ≡ true → q ≡ k
tied q k e = grind (arith, nat_tests)

pub ties : (q k : ℕ) → q ≡ k → eq_by_cmp nat_cmp q k ≡ true
ties q k same = grind (arith, nat_tests)

pub differs : (q k : ℕ) → q ≢ k → eq_by_cmp nat_cmp q k ≡ false
differs q k ne = grind (arith, nat_tests)

or_first : (x y : Bool) → x ≡ true → (x || y) ≡ true
or_first true y e = refl
or_first false y e = absurd (false≢true e)

or_second : (x y : Bool) → y ≡ true → (x || y) ≡ true
or_second true y e = refl
or_second false y e = e

-- what holds of all holds of one that is among them
all_any : (P : ℕ → Type 0) (ks : List ℕ) (q : ℕ) → AllByRecursion P ks → list_any (eq_by_cmp nat_cmp q) ks ≡ true → P q
all_any P [] q all any = absurd (false≢true any)
all_any P (k ∷ ks) q all any = elim (or_cases (eq_by_cmp nat_cmp q k) (list_any (eq_by_cmp nat_cmp q) ks) any) [
  | inl here ↦ subst P (sym (tied q k here)) all.0
  | inr there ↦ all_any P ks q all.1 there
]

-- and of all where it holds of each
any_all : (P : ℕ → Type 0) (ks : List ℕ) → ((q : ℕ) → list_any (eq_by_cmp nat_cmp q) ks ≡ true → P q) → AllByRecursion P ks
any_all P [] each = tt
any_all P (k ∷ ks) each = (
  each k (or_first (eq_by_cmp nat_cmp k k) (list_any (eq_by_cmp nat_cmp k) ks) (ties k k refl)),
  any_all P ks (λ q there. each q (or_second (eq_by_cmp nat_cmp q k) (list_any (eq_by_cmp nat_cmp q) ks) there)),
)

-- a live cell's number is below the next
pub live_below : (s : StoreMap) (c : CellId) → IsAbove s → IsLive s c → c.0 < s.next
live_below s c above live = all_any (λ n. n < s.next) (keys s.cells) c.0 above (sym (contains_key-keys s.cells c.0) ∙ live)

-- a number above each live cell's is above all
pub IsAbove-from : (s : StoreMap) → ((c : CellId) → IsLive s c → c.0 < s.next) → IsAbove s
IsAbove-from s each = any_all (λ n. n < s.next) (keys s.cells) (λ q there. each (record { 0 = q }) (contains_key-keys s.cells q ∙ there))
