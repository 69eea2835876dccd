-- Flags that are turned over one after the other.
use Rattle.std.proofs.Common.{◌≡◌, ℕ, zero, suc, ◌<◌, Bool, not, List, [], ◌∷◌, ◌++◌, map, take, drop, length, get_or, refl, ap, arith}
use Rattle.std.specs.Prelude.{slice_set}

pub length-flip : (xs : List Bool) (i : ℕ) → length (map not (take i xs) ++ drop i xs) ≡ length xs
length-flip xs zero = refl
length-flip [] (suc i) = refl
length-flip (x ∷ xs) (suc i) = ap suc (length-flip xs i)

pub flip-read : (xs : List Bool) (i : ℕ) (d : Bool) → get_or (map not (take i xs) ++ drop i xs) i d ≡ get_or xs i d
flip-read xs zero d = refl
flip-read [] (suc i) d = refl
flip-read (x ∷ xs) (suc i) d = flip-read xs i d

pub flip-write : (xs : List Bool) (i : ℕ) (d : Bool) → i < length xs →
    slice_set (map not (take i xs) ++ drop i xs) i (not (get_or xs i d)) ≡ map not (take (suc i) xs) ++ drop (suc i) xs
flip-write [] i d within = absurd (omega arith)
flip-write (x ∷ xs) zero d within = refl
flip-write (x ∷ xs) (suc i) d within = ap (λ (ys : List Bool). not x ∷ ys) (flip-write xs i d (omega arith))

pub flip-end : (xs : List Bool) (n : ℕ) → length xs ≡ n → map not (take n xs) ++ drop n xs ≡ map not xs
flip-end [] zero is = refl
flip-end [] (suc n) is = absurd (omega arith)
flip-end (x ∷ xs) zero is = absurd (omega arith)
flip-end (x ∷ xs) (suc n) is = ap (λ (ys : List Bool). not x ∷ ys) (flip-end xs n (omega arith))
