-- A loop's step over a list of which it writes each element.
use Rattle.std.proofs.Common.{◌≡◌, ℕ, zero, suc, ◌+◌, ◌≤◌, List, [], ◌∷◌, ◌++◌, length, take, Some, sym, ap, ◌∙◌, arith, slice_get}
use Rattle.std.specs.List.{flat_map, zip}
use Rattle.std.proofs.lemmas.List.{flat_map_more, take_more, take_all}
use Rattle.std.proofs.lemmas.Option.{slice_get_within, get_or_from_slice_get}
use Rattle.std.proofs.lemmas.Slice.Zip.{length-zip}

-- what is written so far, and the next element's text
pub flat_map_next : {X A : Type 0} (f : X → List A) (bs : List A) (xs : List X) (i : ℕ) (x : X) → slice_get xs i ≡ Some x →
    (bs ++ flat_map f (take i xs)) ++ f x ≡ bs ++ flat_map f (take (i + 1) xs)
flat_map_next f bs xs i x at =
    flat_map_more f bs (take i xs) x
    ∙ ap (λ l. bs ++ flat_map f l) (sym (take_more xs i x (slice_get_within xs i x at) ∙ ap (λ y. take i xs ++ y ∷ []) (get_or_from_slice_get xs i x x at)))

-- what is written after all
pub flat_map_all : {X A : Type 0} (f : X → List A) (bs : List A) (xs : List X) (i : ℕ) → length xs ≤ i → bs ++ flat_map f (take i xs) ≡ bs ++ flat_map f xs
flat_map_all f bs xs i le = ap (λ l. bs ++ flat_map f l) (take_all i xs le)

-- the elements of two lists at one place
pub slice_get-zip : {X Y : Type 0} (xs : List X) (ys : List Y) (i : ℕ) (x : X) (y : Y) → slice_get xs i ≡ Some x →
    slice_get ys i ≡ Some y → slice_get (zip xs ys) i ≡ Some (x, y)
slice_get-zip [] ys i x y at_x at_y = absurd (cc)
slice_get-zip (u ∷ xs) [] i x y at_x at_y = absurd (cc)
slice_get-zip (u ∷ xs) (v ∷ ys) zero x y at_x at_y = let left : u ≡ x = cc in let right : v ≡ y = cc in λ j. Some (left j, right j)
slice_get-zip (u ∷ xs) (v ∷ ys) (suc i) x y at_x at_y = slice_get-zip xs ys i x y at_x at_y

-- two lists of one length, together
pub zip_within : {X Y : Type 0} (xs : List X) (ys : List Y) (i : ℕ) → length xs ≤ i → length (zip xs ys) ≤ i
zip_within xs ys i le = omega (arith, length-zip xs ys)
