-- Classes that are counted from 0.
use Rattle.std.proofs.Common.{◌≡◌, ℕ, zero, suc, ◌+◌, ◌<◌, ◌≤◌, max, List, [], ◌∷◌, ◌++◌, length, take, get_or, fold, refl, ap, sym, ◌∙◌, subst, arith}
use Rattle.std.proofs.lemmas.List.{take_more, take_all}
use Rattle.cert_text.specs.declared.line.ClassLine.{ClassLine}
use Rattle.cert_text.specs.declared.line.SpaceLine.{SpaceLine}
use Rattle.cert_steps.specs.Places.{class_count, AreClassesFrom, IsSpaceLine, AreSpaceLines, IsClassLine, AreClassLines}
use Rattle.cert_steps.proofs.ListsLemmas.{one-more, each-push}

abbrev pub with : ℕ → ℕ → ℕ
with n c = max n (c + 1)

count-push : (n : ℕ) (xs : List ℕ) (x : ℕ) → fold with n (xs ++ x ∷ []) ≡ with (fold with n xs) x
count-push n [] x = refl
count-push n (y ∷ ys) x = count-push (with n y) ys x

pub count-next : (xs : List ℕ) (i count : ℕ) → i < length xs → count ≡ class_count (take i xs) → with count (get_or xs i 0) ≡ class_count (take (i + 1) xs)
count-next xs i count inside is =
    ap (λ (n : ℕ). with n (get_or xs i 0)) is ∙ sym (count-push 0 (take i xs) (get_or xs i 0)) ∙ ap class_count (sym (take_more xs i 0 inside))

pub count-whole : (xs : List ℕ) (i count : ℕ) → length xs ≤ i → count ≡ class_count (take i xs) → count ≡ class_count xs
count-whole xs i count all is = is ∙ ap class_count (take_all i xs all)

counted-push : (n : ℕ) (xs : List ℕ) (x : ℕ) → AreClassesFrom n xs → x ≤ fold with n xs → AreClassesFrom n (xs ++ x ∷ [])
counted-push n [] x are below = (below, tt)
counted-push n (y ∷ ys) x are below = (are.0, counted-push (with n y) ys x are.1 below)

pub counted-next : (xs : List ℕ) (i count : ℕ) → i < length xs → AreClassesFrom 0 (take i xs) → count ≡ class_count (take i xs) →
    get_or xs i 0 ≤ count → AreClassesFrom 0 (take (i + 1) xs)
counted-next xs i count inside are is below =
    subst (AreClassesFrom 0) (sym (take_more xs i 0 inside))
    (counted-push 0 (take i xs) (get_or xs i 0) are (subst (λ (n : ℕ). get_or xs i 0 ≤ n) is below))

-- each class is at most the count of those before it
counted-at : (n : ℕ) (xs : List ℕ) (i : ℕ) → AreClassesFrom n xs → i < length xs → get_or xs i 0 ≤ fold with n (take i xs)
counted-at n [] i are inside = absurd (omega (arith, inside))
counted-at n (x ∷ xs) zero are inside = are.0
counted-at n (x ∷ xs) (suc i) are inside = counted-at (with n x) xs i are.1 (omega (arith, inside))

pub counted-fails : (xs : List ℕ) (i count : ℕ) → i < length xs → count ≡ class_count (take i xs) → count < get_or xs i 0 → AreClassesFrom 0 xs → ⊥
counted-fails xs i count inside is above are = let h = counted-at 0 xs i are inside in omega (arith, is, above, h)

-- ---- lines, one a space

pub spaces-none : AreSpaceLines 0 []
spaces-none = record { many = refl; each = λ s line at. absurd cc }

pub spaces-push : (n : ℕ) (lines : List SpaceLine) (line : SpaceLine) → AreSpaceLines n lines → IsSpaceLine n line → AreSpaceLines (n + 1) (lines ++ line ∷ [])
spaces-push n lines line are here = record {
  many = one-more lines line n are.many;
  each = each-push IsSpaceLine lines line n are.many are.each here;
}

module _ (spaces : List SpaceLine) (child : ℕ → ℕ) where
  pub classes-none : AreClassLines spaces child 0 []
  classes-none = record { many = refl; each = λ s line at. absurd cc }

  pub classes-push : (n : ℕ) (lines : List ClassLine) (line : ClassLine) → AreClassLines spaces child n lines → IsClassLine spaces n (child n) line →
      AreClassLines spaces child (n + 1) (lines ++ line ∷ [])
  classes-push n lines line are here = record {
    many = one-more lines line n are.many;
    each = each-push (λ s l. IsClassLine spaces s (child s) l) lines line n are.many are.each here;
  }
