-- On the worked examples.
use Rattle.std.proofs.Common.{◌≡◌, ℕ, zero, suc, ◌+◌, ◌^◌, Bool, true, false, ◌||◌, [], ◌∷◌, refl, sym, ap, ap₂, ◌∙◌, arith, pow-suc}
use Rattle.std.proofs.lemmas.Bool.{false≢true}
use Rattle.gta_theory.specs.Assignments.{Position, IsOnly, is_same_position}
use Rattle.ws2s_core.specs.Examples.{doubled}
use Rattle.ws2s_core.specs.Sizes.{node_count, count_of_node}
use Rattle.ws2s_core.proofs.FormulaLemmas.{fold-Single, fold-And}
use Rattle.ws2s_core.specs.Examples.{track}

same_letter : (b c : Bool) (p q : Position) → is_same_position (b ∷ p) (c ∷ q) ≡ true → (b ≡ c) × (is_same_position p q ≡ true)
same_letter true true p q e = (refl, e)
same_letter true false p q e = absurd (false≢true e)
same_letter false true p q e = absurd (false≢true e)
same_letter false false p q e = (refl, e)

pub same_position-true : (p q : Position) → is_same_position p q ≡ true → p ≡ q
same_position-true [] [] e = refl
same_position-true [] (c ∷ q) e = absurd (false≢true e)
same_position-true (b ∷ p) [] e = absurd (false≢true e)
same_position-true (b ∷ p) (c ∷ q) e =
    let h = same_letter b c p q e in ap₂ (λ x xs. x ∷ xs) h.0 (same_position-true p q h.1)

pub same_position-refl : (p : Position) → is_same_position p p ≡ true
same_position-refl [] = refl
same_position-refl (true ∷ p) = same_position-refl p
same_position-refl (false ∷ p) = same_position-refl p

-- a set that is listed with one position has it alone
pub IsOnly-listed : (u : Position) → IsOnly (λ p. is_same_position u p || false) u
IsOnly-listed u p = (
  (λ h. sym (same_position-true u p (whole (is_same_position u p) h))),
  (λ e. ap (λ q. is_same_position u q || false) e ∙ ap (λ b. b || false) (same_position-refl u)),
)
  where
    whole : (b : Bool) → b || false ≡ true → b ≡ true
    whole true h = refl
    whole false h = h

node_count-doubled : (k : ℕ) → node_count (doubled k) + 1 ≡ 2 ^ suc k
unfolding doubled
node_count-doubled zero = ap (λ n. n + 1) (fold-Single ℕ count_of_node (track 0))
node_count-doubled (suc k) =
    let e : node_count (doubled (suc k)) ≡ node_count (doubled k) + node_count (doubled k) + 1 = fold-And ℕ count_of_node (doubled k) (doubled k) in
    let h = node_count-doubled k in
    omega (arith, pow-suc 2 (suc k))

pub count_doubled : (k m : ℕ) → m + 1 ≡ 2 ^ suc k → node_count (doubled k) ≡ m
count_doubled k m e = omega (arith, node_count-doubled k)
