-- On assignments: covering depths, and an assignment put together from a label and two halves.
use Rattle.std.proofs.Common.{◌≡◌, ◌≢◌, ℕ, suc, ◌≤◌, Bool, true, false, cond, eqb, [], ◌∷◌, refl, arith, eq-eqb, ne_eqb, zero-le, suc-le-suc}
use mathlib.Core.Path.{fun_ext}
use Rattle.labels.specs.Labels.{Label, empty_label}
use Rattle.gta_theory.specs.Assignments.{PositionSet, Assignment, IsWithin, IsFinite, Covers, half, root_label, replace, empty_assignment}

-- a deeper depth covers too
pub IsWithin-more : (n m : ℕ) (set : PositionSet) → n ≤ m → IsWithin n set → IsWithin m set
IsWithin-more n m set more within p deep = within p (omega arith)

pub Covers-more : (n m : ℕ) (a : Assignment) → n ≤ m → Covers n a → Covers m a
Covers-more n m a more covers t p deep = covers t p (omega arith)

pub Covers-half : (n : ℕ) (letter : Bool) (a : Assignment) → Covers (suc n) a → Covers n (half letter a)
Covers-half n letter a covers t p deep = covers t (letter ∷ p) (suc-le-suc deep)

pub Covers-half_same : (n : ℕ) (letter : Bool) (a : Assignment) → Covers n a → Covers n (half letter a)
Covers-half_same n letter a covers t p deep = covers t (letter ∷ p) (omega arith)

-- what depth 0 covers is empty
pub root_label-covered : (a : Assignment) → Covers 0 a → root_label a ≡ empty_label
root_label-covered a covers = fun_ext (λ t. covers t [] zero-le)

pub Covers-finite : (n : ℕ) (a : Assignment) → Covers n a → IsFinite a
Covers-finite n a covers t = (n, covers t)

-- the set with the root as the bit says, and these two halves
abbrev pub joined_set : Bool → PositionSet → PositionSet → PositionSet
joined_set bit l r [] = bit
joined_set bit l r (false ∷ p) = l p
joined_set bit l r (true ∷ p) = r p

pub IsWithin-joined_set : (n : ℕ) (bit : Bool) (l r : PositionSet) → IsWithin n l → IsWithin n r → IsWithin (suc n) (joined_set bit l r)
IsWithin-joined_set n bit l r in_l in_r [] deep = absurd (omega arith)
IsWithin-joined_set n bit l r in_l in_r (false ∷ p) deep = in_l p (omega arith)
IsWithin-joined_set n bit l r in_l in_r (true ∷ p) deep = in_r p (omega arith)

-- the assignment with this label of the root, and these two halves
abbrev pub joined : Label → Assignment → Assignment → Assignment
joined label l r = λ t. joined_set (label t) (l t) (r t)

pub Covers-joined : (n : ℕ) (label : Label) (l r : Assignment) → Covers n l → Covers n r → Covers (suc n) (joined label l r)
Covers-joined n label l r in_l in_r t = IsWithin-joined_set n (label t) (l t) (r t) (in_l t) (in_r t)

pub Covers-empty : Covers 0 empty_assignment
Covers-empty t p deep = refl

-- replacing a track's set
pub Covers-replace : (n : ℕ) (a : Assignment) (t : ℕ) (set : PositionSet) → Covers n a → IsWithin n set → Covers n (replace a t set)
Covers-replace n a t set covers within u p deep = pick (eqb u t)
  where
    pick : (b : Bool) → cond b (set p) (a u p) ≡ false
    pick true = within p deep
    pick false = covers u p deep

pub replace-same : (a : Assignment) (t : ℕ) (set : PositionSet) → replace a t set t ≡ set
replace-same a t set = λ i p. cond (eq-eqb t t refl i) (set p) (a t p)

pub replace-other : (a : Assignment) (t u : ℕ) (set : PositionSet) → u ≢ t → replace a t set u ≡ a u
replace-other a t u set other = λ i p. cond (ne_eqb u t other i) (set p) (a u p)
