-- Fronts of lists: runs of elements that pass a test, and lists that begin with others.
use Rattle.std.proofs.Common.{◌≡◌, ℕ, suc, ◌+◌, ◌≤◌, Bool, true, false, cond, ◌&&◌, List, [], ◌∷◌, ◌++◌, length, take, drop}
use Rattle.std.proofs.Common.{refl, sym, ◌∙◌, ap, nat_eq, eq-eqb, arith}
use Rattle.std.specs.List.{list_all, prefix_len, starts_with}
use lib.Pointwise.{pointwise}
use Rattle.std.specs.Cmp.Lexicographic.{same_text}
use Rattle.std.specs.Cmp.Derive.{both_true}
use Rattle.std.proofs.lemmas.List.{take-append-drop}
use Rattle.std.proofs.Math.Seq.{take-append_seam}

-- both tests of a conjunction
pub both : (a b : Bool) → (a && b) ≡ true → (a ≡ true) × (b ≡ true)
both true b h = (refl, h)
both false b h = cc

-- the longest run passes
pub list_all-prefix_len : (p : ℕ → Bool) (xs : List ℕ) → list_all p (take (prefix_len p xs) xs) ≡ true
list_all-prefix_len p [] = refl
list_all-prefix_len p (x ∷ xs) = at (p x) refl (list_all-prefix_len p xs)
  where
    at : (v : Bool) → p x ≡ v → list_all p (take (prefix_len p xs) xs) ≡ true → list_all p (take (cond v (1 + prefix_len p xs) 0) (x ∷ xs)) ≡ true
    at true e others =
        let one_more : 1 + prefix_len p xs ≡ suc (prefix_len p xs) = omega arith in
        rw (one_more, e) others
    at false e others = refl

-- no run is longer
pub prefix_len-longest : (p : ℕ → Bool) (front after : List ℕ) → list_all p front ≡ true → length front ≤ prefix_len p (front ++ after)
prefix_len-longest p [] after all = omega arith
prefix_len-longest p (x ∷ xs) after all =
    let parts : (p x ≡ true) × (list_all p xs ≡ true) = both (p x) (list_all p xs) all in
    let e : p x ≡ true = parts.0 in
    let others : length xs ≤ prefix_len p (xs ++ after) = prefix_len-longest p xs after parts.1 in
    rw e (omega arith)

-- what follows the longest run does not pass
pub prefix_len-stops : (p : ℕ → Bool) (xs : List ℕ) (next : ℕ) (rest : List ℕ) → drop (prefix_len p xs) xs ≡ next ∷ rest → p next ≡ false
prefix_len-stops p [] next rest e = cc
prefix_len-stops p (x ∷ xs) next rest e = at (p x) refl (prefix_len-stops p xs next rest) e
  where
    at : (v : Bool) → p x ≡ v → (drop (prefix_len p xs) xs ≡ next ∷ rest → p next ≡ false) →
        drop (cond v (1 + prefix_len p xs) 0) (x ∷ xs) ≡ next ∷ rest → p next ≡ false
    at true here later at_rest =
        let one_more : 1 + prefix_len p xs ≡ suc (prefix_len p xs) = omega arith in
        later (rw one_more at at_rest)
    at false here later at_rest = cc

-- fronts of one list that are equally long are equal
pub same_front : (xs ys after rest : List ℕ) → xs ++ after ≡ ys ++ rest → length xs ≡ length ys → xs ≡ ys
same_front xs ys after rest e same =
    sym (take-append_seam xs after) ∙ ap (take (length xs)) e ∙ ap (λ n. take n (ys ++ rest)) same ∙ take-append_seam ys rest

pointwise-refl : (xs : List ℕ) → pointwise nat_eq xs xs ≡ true
pointwise-refl [] = refl
pointwise-refl (x ∷ xs) = both_true (eq-eqb x x refl) (pointwise-refl xs)

-- a list begins with its front
pub starts_with-append : (front after : List ℕ) → starts_with nat_eq (front ++ after) front ≡ true
starts_with-append front after = rw (take-append_seam front after) (pointwise-refl front)

-- a list that begins with another is that one and the rest
pub append-starts_with : (xs front : List ℕ) → starts_with nat_eq xs front ≡ true → front ++ drop (length front) xs ≡ xs
append-starts_with xs front begins =
    ap (λ f. f ++ drop (length front) xs) (same_text front (take (length front) xs) (sym begins)) ∙ take-append-drop (length front) xs
