-- On places of lists.
use Rattle.std.proofs.Common.{◌≡◌, ◌≢◌, ℕ, zero, suc, ◌<◌, List, [], ◌∷◌, length, get_or, slice_get, slice_set, Some, refl, ap, arith}

pub get-set : {X : Type 0} (xs : List X) (i : ℕ) (x : X) → i < length xs → slice_get (slice_set xs i x) i ≡ Some x
get-set [] i x inside = absurd (omega arith)
get-set (y ∷ xs) zero x inside = refl
get-set (y ∷ xs) (suc i) x inside = get-set xs i x (omega arith)

pub get-set_other : {X : Type 0} (xs : List X) (i k : ℕ) (x : X) → k ≢ i → slice_get (slice_set xs i x) k ≡ slice_get xs k
get-set_other [] i k x other = refl
get-set_other (y ∷ xs) zero zero x other = absurd (other refl)
get-set_other (y ∷ xs) zero (suc k) x other = refl
get-set_other (y ∷ xs) (suc i) zero x other = refl
get-set_other (y ∷ xs) (suc i) (suc k) x other = get-set_other xs i k x (λ e. other (ap suc e))

pub some : {X : Type 0} {x y : X} → Some x ≡ Some y → x ≡ y
some e = cc

-- what stands at a place
pub at-place : {X : Type 0} (xs : List X) (i : ℕ) (d x : X) → i < length xs → get_or xs i d ≡ x → slice_get xs i ≡ Some x
at-place [] i d x inside is = absurd (omega arith)
at-place (y ∷ xs) zero d x inside is = ap Some is
at-place (y ∷ xs) (suc i) d x inside is = at-place xs i d x (omega arith) is
