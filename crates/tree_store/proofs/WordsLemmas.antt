-- The words of slots and children.
use Rattle.std.proofs.Common.{◌≡◌, ℕ, zero, suc, false, [], ◌∷◌, ◌++◌, refl, sym, ap, ◌∙◌, append_assoc}
use Rattle.gta_theory.specs.Assignments.{Position}
use Rattle.ws2s_forms.specs.Places.{ones, child_of, slot_of}

pub slots-apart : (i j : ℕ) → slot_of i ≡ slot_of j → i ≡ j
slots-apart zero zero e = refl
slots-apart zero (suc j) e = cc
slots-apart (suc i) zero e = cc
slots-apart (suc i) (suc j) e = let later : slot_of i ≡ slot_of j = cc in ap (λ n. suc n) (slots-apart i j later)

-- the last letter is a zero
pub record EndsInZero (p : Position) : Type 0 where
  pub before : Position
  pub is : p ≡ before ++ false ∷ []

pub slot-ends : (i : ℕ) → EndsInZero (slot_of i)
slot-ends i = record { before = ones i; is = refl }

pub child-ends : (j : ℕ) (u : Position) → EndsInZero (child_of j u)
child-ends j u = record { before = u ++ ones j; is = sym (append_assoc u (ones j) (false ∷ [])) }

-- a slot has no zero but its last letter
one-zero : (i : ℕ) (w v : Position) → slot_of i ≡ w ++ false ∷ v → v ≡ []
one-zero zero [] v e = cc
one-zero zero (b ∷ []) v e = cc
one-zero zero (b ∷ c ∷ w) v e = cc
one-zero (suc i) [] v e = cc
one-zero (suc i) (b ∷ w) v e = let later : slot_of i ≡ w ++ false ∷ v = cc in one-zero i w v later

not-none : (j : ℕ) → slot_of j ≡ [] → ⊥
not-none zero e = cc
not-none (suc j) e = cc

child-word : (j : ℕ) (u w : Position) → u ≡ w ++ false ∷ [] → child_of j u ≡ w ++ false ∷ slot_of j
child-word j u w is = ap (λ v. v ++ slot_of j) is ∙ append_assoc w (false ∷ []) (slot_of j)

pub slot-not_child : (i j : ℕ) (u : Position) → EndsInZero u → slot_of i ≡ child_of j u → ⊥
slot-not_child i j u ends e =
    not-none j (one-zero i ends.before (slot_of j) (e ∙ child-word j u ends.before ends.is))

words-apart : (v w : Position) (j k : ℕ) → v ++ false ∷ slot_of j ≡ w ++ false ∷ slot_of k → (j ≡ k) × (v ≡ w)
words-apart [] [] j k e = let later : slot_of j ≡ slot_of k = cc in (slots-apart j k later, refl)
words-apart [] (b ∷ w) j k e = let later : slot_of j ≡ w ++ false ∷ slot_of k = cc in absurd (not-none k (one-zero j w (slot_of k) later))
words-apart (b ∷ v) [] j k e = let later : slot_of k ≡ v ++ false ∷ slot_of j = cc in absurd (not-none j (one-zero k v (slot_of j) later))
words-apart (b ∷ v) (c ∷ w) j k e =
    let later : v ++ false ∷ slot_of j ≡ w ++ false ∷ slot_of k = cc in
    let first : b ≡ c = cc in
    let (number, rest) = words-apart v w j k later in (number, (λ i. first i ∷ rest i))

pub children-apart : (j k : ℕ) (u v : Position) → EndsInZero u → EndsInZero v → child_of j u ≡ child_of k v → (j ≡ k) × (u ≡ v)
children-apart j k u v of_u of_v e =
    let (number, same) = words-apart of_u.before of_v.before j k
    (sym (child-word j u of_u.before of_u.is) ∙ e ∙ child-word k v of_v.before of_v.is) in
    (number, of_u.is ∙ ap (λ w. w ++ false ∷ []) same ∙ sym of_v.is)
