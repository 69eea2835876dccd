-- Formulas in which a track isn't free, form by form.
use Rattle.std.proofs.Common.{◌≡◌, ◌≢◌, ℕ, zero, suc, ◌<◌, Bool, true, false, cond, eqb, ◌||◌, List, [], ◌∷◌, ◌++◌, map, fold, refl, sym, ap, ◌∙◌, arith}
use Rattle.std.proofs.Common.{ne_eqb}
use Rattle.std.proofs.lemmas.Bool.{false≢true}
use Rattle.ws2s_core.specs.declared.track.Track.{Track}
use Rattle.ws2s_core.specs.declared.formula.Formula.{Formula}
use Rattle.ws2s_core.specs.declared.formula.Formula.TheVariants.{Sub, Single, Succ0, Succ1, Root, And, Not, Ex2}
use Rattle.ws2s_core.specs.Tracks.{is_free, is_free_in_node, IsFree}
use Rattle.ws2s_core.proofs.FormulaLemmas.{fold-Sub, fold-Single, fold-Succ0, fold-Succ1, fold-Root, fold-And, fold-Not, fold-Ex2}
use Rattle.ws2s_forms.specs.Forms.{track, false_at, true_at, and_list, or_list, or, imp, iff, ex1, all1, all2, empty_at, equal, flag, go, slot}

-- another number
pub above : (t n : ℕ) → t < n → n ≢ t
above t n less e = let k : ⊥ = omega (arith, e, less) in k

pub below : (t n : ℕ) → n < t → n ≢ t
below t n less e = let k : ⊥ = omega (arith, e, less) in k

pub later : (t n : ℕ) → t < n → t < suc n
later t n less = omega (arith, less)

module _ (t : ℕ) where
  -- the track isn't free in the formula
  abbrev pub IsClear : Formula → Type 0
  IsClear f = is_free t f ≡ false

  pub clear-unfree : (f : Formula) → IsClear f → IsFree t f → ⊥
  clear-unfree f clear free = false≢true (sym clear ∙ free)

  -- each of a list
  abbrev pub AreClear : List Formula → Type 0
  AreClear [] = Unit {0}
  AreClear (f ∷ fs) = IsClear f × AreClear fs

  -- ---- the core forms

  two-others : (x y : ℕ) → x ≢ t → y ≢ t → eqb x t || eqb y t ≡ false
  two-others x y no_x no_y = ap (λ b. b || eqb y t) (ne_eqb x t no_x) ∙ ne_eqb y t no_y

  pub clear-Sub : (x y : Track) → x.0 ≢ t → y.0 ≢ t → IsClear (Sub x y)
  clear-Sub x y no_x no_y = fold-Sub Bool (is_free_in_node t) x y ∙ two-others x.0 y.0 no_x no_y

  pub clear-Single : (x : Track) → x.0 ≢ t → IsClear (Single x)
  clear-Single x no_x = fold-Single Bool (is_free_in_node t) x ∙ ne_eqb x.0 t no_x

  pub clear-Succ0 : (x y : Track) → x.0 ≢ t → y.0 ≢ t → IsClear (Succ0 x y)
  clear-Succ0 x y no_x no_y = fold-Succ0 Bool (is_free_in_node t) x y ∙ two-others x.0 y.0 no_x no_y

  pub clear-Succ1 : (x y : Track) → x.0 ≢ t → y.0 ≢ t → IsClear (Succ1 x y)
  clear-Succ1 x y no_x no_y = fold-Succ1 Bool (is_free_in_node t) x y ∙ two-others x.0 y.0 no_x no_y

  pub clear-Root : (x : Track) → x.0 ≢ t → IsClear (Root x)
  clear-Root x no_x = fold-Root Bool (is_free_in_node t) x ∙ ne_eqb x.0 t no_x

  pub clear-And : (f g : Formula) → IsClear f → IsClear g → IsClear (And f g)
  clear-And f g one other = fold-And Bool (is_free_in_node t) f g ∙ ap (λ b. b || is_free t g) one ∙ other

  pub clear-Not : (f : Formula) → IsClear f → IsClear (Not f)
  clear-Not f clear = fold-Not Bool (is_free_in_node t) f ∙ clear

  under : (b c : Bool) → c ≡ false → cond b false c ≡ false
  under true c e = refl
  under false c e = e

  pub clear-Ex2 : (x : Track) (f : Formula) → IsClear f → IsClear (Ex2 x f)
  clear-Ex2 x f clear = fold-Ex2 Bool (is_free_in_node t) x f ∙ under (eqb x.0 t) (is_free t f) clear

  -- ---- truth values and connectives

  pub clear-false : (next : ℕ) → t < next → IsClear (false_at next)
  clear-false next less =
      let single = clear-Single (track next) (above t next less) in
      clear-Ex2 (track next) (And (Single (track next)) (Not (Single (track next))))
      (clear-And (Single (track next)) (Not (Single (track next))) single (clear-Not (Single (track next)) single))

  pub clear-true : (next : ℕ) → t < next → IsClear (true_at next)
  clear-true next less = clear-Not (false_at next) (clear-false next less)

  clear-chain : (fs : List Formula) (f : Formula) → IsClear f → AreClear fs → IsClear (fold And f fs)
  clear-chain [] f clear all = clear
  clear-chain (g ∷ gs) f clear all = clear-chain gs (And f g) (clear-And f g clear all.0) all.1

  pub clear-and_list : (next : ℕ) (fs : List Formula) → t < next → AreClear fs → IsClear (and_list next fs)
  clear-and_list next [] less all = clear-true next less
  clear-and_list next (f ∷ fs) less all = clear-chain fs f all.0 all.1

  clear-nots : (fs : List Formula) → AreClear fs → AreClear (map Not fs)
  clear-nots [] all = tt
  clear-nots (f ∷ fs) all = (clear-Not f all.0, clear-nots fs all.1)

  pub clear-or_list : (next : ℕ) (fs : List Formula) → t < next → AreClear fs → IsClear (or_list next fs)
  clear-or_list next fs less all =
      clear-Not (and_list next (map Not fs)) (clear-and_list next (map Not fs) less (clear-nots fs all))

  pub clear-or : (f g : Formula) → IsClear f → IsClear g → IsClear (or f g)
  clear-or f g one other =
      clear-Not (And (Not f) (Not g)) (clear-And (Not f) (Not g) (clear-Not f one) (clear-Not g other))

  pub clear-imp : (f g : Formula) → IsClear f → IsClear g → IsClear (imp f g)
  clear-imp f g one other = clear-Not (And f (Not g)) (clear-And f (Not g) one (clear-Not g other))

  pub clear-iff : (f g : Formula) → IsClear f → IsClear g → IsClear (iff f g)
  clear-iff f g one other = clear-And (imp f g) (imp g f) (clear-imp f g one other) (clear-imp g f other one)

  -- ---- lists

  pub clear-map : {X : Type 0} (f : X → Formula) → ((x : X) → IsClear (f x)) → (xs : List X) → AreClear (map f xs)
  clear-map f each [] = tt
  clear-map f each (x ∷ xs) = (each x, clear-map f each xs)

  pub clear-append : (fs gs : List Formula) → AreClear fs → AreClear gs → AreClear (fs ++ gs)
  clear-append [] gs one other = other
  clear-append (f ∷ fs) gs one other = (one.0, clear-append fs gs one.1 other)

  -- ---- quantifiers and sets

  pub clear-ex1 : (next : ℕ) (f : Formula) → t < next → IsClear f → IsClear (ex1 next f)
  clear-ex1 next f less clear =
      clear-Ex2 (track next) (And (Single (track next)) f)
      (clear-And (Single (track next)) f (clear-Single (track next) (above t next less)) clear)

  pub clear-all1 : (next : ℕ) (f : Formula) → t < next → IsClear f → IsClear (all1 next f)
  clear-all1 next f less clear = clear-Not (ex1 next (Not f)) (clear-ex1 next (Not f) less (clear-Not f clear))

  pub clear-all2 : (next : ℕ) (f : Formula) → IsClear f → IsClear (all2 next f)
  clear-all2 next f clear = clear-Not (Ex2 (track next) (Not f)) (clear-Ex2 (track next) (Not f) (clear-Not f clear))

  pub clear-empty : (next x : ℕ) → t < next → x ≢ t → IsClear (empty_at next x)
  clear-empty next x less no_x =
      clear-Not (ex1 next (Sub (track next) (track x)))
      (clear-ex1 next (Sub (track next) (track x)) less (clear-Sub (track next) (track x) (above t next less) no_x))

  pub clear-equal : (x y : ℕ) → x ≢ t → y ≢ t → IsClear (equal x y)
  clear-equal x y no_x no_y =
      clear-And (Sub (track x) (track y)) (Sub (track y) (track x)) (clear-Sub (track x) (track y) no_x no_y)
      (clear-Sub (track y) (track x) no_y no_x)

  pub clear-flag : (next x : ℕ) → t < next → x ≢ t → IsClear (flag next x)
  clear-flag next x less no_x =
      clear-Ex2 (track next) (And (Root (track next)) (Sub (track next) (track x)))
      (clear-And (Root (track next)) (Sub (track next) (track x)) (clear-Root (track next) (above t next less))
      (clear-Sub (track next) (track x) (above t next less) no_x))

  -- ---- positions

  pub clear-go : (n next from to : ℕ) → t < next → from ≢ t → to ≢ t → IsClear (go next n from to)
  clear-go zero next from to less no_from no_to = clear-Succ0 (track from) (track to) no_from no_to
  clear-go (suc n) next from to less no_from no_to =
      clear-Ex2 (track next) (And (Succ1 (track from) (track next)) (go (suc next) n next to))
      (clear-And (Succ1 (track from) (track next)) (go (suc next) n next to)
      (clear-Succ1 (track from) (track next) no_from (above t next less))
      (clear-go n (suc next) next to (later t next less) (above t next less) no_to))

  pub clear-slot : (next i to : ℕ) → t < next → to ≢ t → IsClear (slot next i to)
  clear-slot next i to less no_to =
      clear-Ex2 (track next) (And (Root (track next)) (go (suc next) i next to))
      (clear-And (Root (track next)) (go (suc next) i next to) (clear-Root (track next) (above t next less))
      (clear-go i (suc next) next to (later t next less) (above t next less) no_to))
