-- Lists of cells of which some are kept, and lists of which the first elements were changed.
use Rattle.std.proofs.Common.{◌≡◌, ◌+◌, ◌<◌, ◌≤◌, ℕ, zero, suc, Bool, true, false, cond, List, [], ◌∷◌, ◌++◌, length, map, take, filter}
use Rattle.std.proofs.Common.{slice_get, slice_set, Option, Some, None, is_some, refl, sym, ap, ◌∙◌, arith}
use Rattle.std.specs.Prelude.{option_map}
use Rattle.std.specs.List.{AllByRecursion}
use Rattle.std.proofs.lemmas.List.{take_more}
use Rattle.std.proofs.lemmas.Option.{slice_get_within, get_or_from_slice_get}
use Rattle.store_core.specs.declared.ids.CellId.{CellId}
use Rattle.store_core.specs.declared.value.Value.{Value}
use Rattle.store_core.specs.declared.value.Value.TheVariants as value
use Rattle.store_core.specs.Tables.{VarEntry}
use Rattle.store_core.specs.Stores.{StoreMap, class_of, VarsFit}
use Rattle.store_core.specs.CellLists.{AreRising}
use Rattle.store_core.proofs.Bodies.{AllByRecursion-at}
use Rattle.store_exec.specs.Restricted.{live_part, restricted}

-- ---- elements at places

-- past the end nothing is left
pub past_end : {X : Type 0} (xs : List X) (i : ℕ) → slice_get xs i ≡ None → length xs ≤ i
past_end [] i is = omega arith
past_end (x ∷ xs) zero is = absurd cc
past_end (x ∷ xs) (suc i) is = let rest = past_end xs i is in omega (arith, rest)

-- ---- cells of which some are kept

-- what stands past the end of a list of cells
abbrev pub no_cell : CellId
no_cell = record { 0 = 0 }

module _ (p : CellId → Bool) where
  -- those kept so far are below the next
  pub kept_low : (cells : List CellId) (i : ℕ) (cell : CellId) → AreRising cells → slice_get cells i ≡ Some cell →
      AllByRecursion (λ (d : CellId). d.0 < cell.0) (filter p (take i cells))
  kept_low [] i cell rising is = absurd cc
  kept_low (x ∷ cells) zero cell rising is = tt
  kept_low (x ∷ cells) (suc i) cell rising is =
      by (p x) (AllByRecursion-at (λ (d : CellId). x.0 < d.0) cells i cell rising.0 is) (kept_low cells i cell rising.1 is)
    where
      by : (b : Bool) → x.0 < cell.0 → AllByRecursion (λ (d : CellId). d.0 < cell.0) (filter p (take i cells)) →
          AllByRecursion (λ (d : CellId). d.0 < cell.0) (cond b (x ∷ filter p (take i cells)) (filter p (take i cells)))
      by true less rest = (less, rest)
      by false less rest = rest

  filter_push : (xs : List CellId) (x : CellId) → filter p (xs ++ x ∷ []) ≡ cond (p x) (filter p xs ++ x ∷ []) (filter p xs)
  filter_push [] x = refl
  filter_push (y ∷ xs) x = by (p y) (p x) (filter_push xs x)
    where
      by : (t u : Bool) → filter p (xs ++ x ∷ []) ≡ cond u (filter p xs ++ x ∷ []) (filter p xs) →
          cond t (y ∷ filter p (xs ++ x ∷ [])) (filter p (xs ++ x ∷ []))
          ≡ cond u (cond t (y ∷ filter p xs) (filter p xs) ++ x ∷ []) (cond t (y ∷ filter p xs) (filter p xs))
      by true true rest = ap (λ l. y ∷ l) rest
      by true false rest = ap (λ l. y ∷ l) rest
      by false u rest = rest

  -- one cell more
  kept_step : (cells : List CellId) (i : ℕ) (cell : CellId) → slice_get cells i ≡ Some cell →
      filter p (take (i + 1) cells) ≡ cond (p cell) (filter p (take i cells) ++ cell ∷ []) (filter p (take i cells))
  kept_step cells i cell is =
      ap (filter p) (take_more cells i cell (slice_get_within cells i cell is)
      ∙ ap (λ (x : CellId). take i cells ++ x ∷ []) (get_or_from_slice_get cells i cell cell is)) ∙ filter_push (take i cells) cell

  pub kept_more : (cells kept : List CellId) (i : ℕ) (cell : CellId) → slice_get cells i ≡ Some cell → p cell ≡ true → kept ≡ filter p (take i cells) →
      kept ++ cell ∷ [] ≡ filter p (take (i + 1) cells)
  kept_more cells kept i cell is passes so_far =
      ap (λ (l : List CellId). l ++ cell ∷ []) so_far
      ∙ sym (kept_step cells i cell is ∙ ap (λ b. cond b (filter p (take i cells) ++ cell ∷ []) (filter p (take i cells))) passes)

  pub kept_same : (cells kept : List CellId) (i : ℕ) (cell : CellId) → slice_get cells i ≡ Some cell → p cell ≡ false → kept ≡ filter p (take i cells) →
      kept ≡ filter p (take (i + 1) cells)
  kept_same cells kept i cell is fails so_far =
      so_far ∙ sym (kept_step cells i cell is ∙ ap (λ b. cond b (filter p (take i cells) ++ cell ∷ []) (filter p (take i cells))) fails)

-- a cell has a type where it is live
pub typed_live : {X Y : Type 0} (f : X → Y) (o : Option X) → is_some (option_map f o) ≡ is_some o
typed_live f None = refl
typed_live f (Some x) = refl

-- ---- lists of which the first elements were changed

module _ {X : Type 0} (f : X → X) where
  -- the first of them, as many as this, changed
  abbrev pub half : ℕ → List X → List X
  half zero xs = xs
  half (suc i) [] = []
  half (suc i) (x ∷ xs) = f x ∷ half i xs

  pub half_at : (xs : List X) (i : ℕ) → slice_get (half i xs) i ≡ slice_get xs i
  half_at [] zero = refl
  half_at [] (suc i) = refl
  half_at (x ∷ xs) zero = refl
  half_at (x ∷ xs) (suc i) = half_at xs i

  half_set : (xs : List X) (i : ℕ) (x : X) → slice_get xs i ≡ Some x → slice_set (half i xs) i (f x) ≡ half (suc i) xs
  half_set [] i x is = absurd cc
  half_set (y ∷ xs) zero x is = let same : y ≡ x = cc in ap (λ (z : X). f z ∷ xs) (sym same)
  half_set (y ∷ xs) (suc i) x is = ap (λ (l : List X). f y ∷ l) (half_set xs i x is)

  pub half_more : (xs : List X) (i : ℕ) (x : X) → slice_get xs i ≡ Some x → slice_set (half i xs) i (f x) ≡ half (i + 1) xs
  half_more xs i x is = let one : suc i ≡ i + 1 = omega arith in half_set xs i x is ∙ ap (λ (n : ℕ). half n xs) one

  pub half_all : (xs : List X) (i : ℕ) → length xs ≤ i → half i xs ≡ map f xs
  half_all [] zero low = refl
  half_all [] (suc i) low = refl
  half_all (x ∷ xs) zero low = absurd (omega (arith, low))
  half_all (x ∷ xs) (suc i) low = ap (λ (l : List X). f x ∷ l) (half_all xs i (omega (arith, low)))

  pub half_length : (xs : List X) (i : ℕ) → length (half i xs) ≡ length xs
  half_length xs zero = refl
  half_length [] (suc i) = refl
  half_length (x ∷ xs) (suc i) = let rest = half_length xs i in omega (arith, rest)

-- ---- stores of which the first variables are restricted

pub same_class : (s : StoreMap) (x : Value) → class_of (live_part s x) ≡ class_of x
same_class s (value.Bool truth) = refl
same_class s (value.Cell c) = refl
same_class s (value.Cells cells) = refl

-- the same store, with the first of the variables restricted
abbrev pub half_restricted : StoreMap → ℕ → StoreMap
half_restricted s i = record s { vars = half (live_part s) i s.vars }

pub none_restricted : (s : StoreMap) → half_restricted s 0 ≡ s
none_restricted s = refl

-- a store that fits has a value for each variable
pub vars_length : (s : StoreMap) (vars : List VarEntry) (xs : List Value) → VarsFit s vars xs → length xs ≡ length vars
vars_length s [] [] fit = refl
vars_length s [] (x ∷ xs) fit = absurd fit
vars_length s (v ∷ vars) [] fit = absurd fit
vars_length s (v ∷ vars) (x ∷ xs) fit = let rest = vars_length s vars xs fit.1 in omega (arith, rest)

-- what lives of a value is told by the cells alone
part_alike : (s : StoreMap) (l : List Value) (x : Value) → live_part (record s { vars = l }) x ≡ live_part s x
part_alike s l (value.Bool truth) = refl
part_alike s l (value.Cell c) = refl
part_alike s l (value.Cells cells) = refl

-- one variable more
pub restricted_more : (s now after : StoreMap) (i : ℕ) (x y : Value) → now ≡ half_restricted s i → slice_get now.vars i ≡ Some x → y ≡ live_part now x →
    after ≡ record now { vars = slice_set now.vars i y } → after ≡ half_restricted s (i + 1)
restricted_more s now after i x y is there part changed =
    let own : slice_get s.vars i ≡ Some x = sym (half_at (live_part s) s.vars i) ∙ ap (λ (z : StoreMap). slice_get z.vars i) (sym is) ∙ there in
    let lives : y ≡ live_part s x = part ∙ ap (λ (z : StoreMap). live_part z x) is ∙ part_alike s (half (live_part s) i s.vars) x in
    changed ∙ ap (λ (w : Value). record now { vars = slice_set now.vars i w }) lives
    ∙ ap (λ (z : StoreMap). record z { vars = slice_set z.vars i (live_part s x) }) is
    ∙ ap (λ (l : List Value). record s { vars = l }) (half_more (live_part s) s.vars i x own)

-- all of them
pub restricted_all : (s now : StoreMap) (i : ℕ) → now ≡ half_restricted s i → length s.vars ≤ i → now ≡ restricted s
restricted_all s now i is all = is ∙ ap (λ (l : List Value). record s { vars = l }) (half_all (live_part s) s.vars i all)
