-- What has a reading that counts and opens no level above the limit is not refused.
use Rattle.std.proofs.Common.{◌≡◌, ℕ, zero, suc, ◌+◌, ◌≤◌, List, [], ◌∷◌, ◌++◌, take, drop, Some, sym, ◌∙◌, ap, subst, refl, arith, append-nil}
use Rattle.std.specs.Prelude.{slice_get}
use Rattle.ll1_reader.specs.Grammars.{Rules}
use Rattle.ll1_reader.specs.Readings.{Stack, Step, Reads, over, row_over, read, opened, acted, once, taken, left_out, again}
use Rattle.ll1_reader.specs.Readings.{ended, AnyEnd, IsNotBegun, IsAnyReading, IsReading}
use Rattle.ll1_reader.specs.Answers.{levels, AreLow, NoneGoesOn, IsWrongAt, IsDeepAt}

-- a list is its front and its rest
pub front_and_rest : {X : Type 0} (n : ℕ) (xs : List X) → take n xs ++ drop n xs ≡ xs
front_and_rest zero xs = refl
front_and_rest (suc n) [] = refl
front_and_rest (suc n) (x ∷ xs) = ap (λ l. x ∷ l) (front_and_rest n xs)

pub rest_at : {X : Type 0} (n : ℕ) (xs : List X) (x : X) → slice_get xs n ≡ Some x → drop n xs ≡ x ∷ drop (suc n) xs
rest_at n [] x e = absurd (cc e)
rest_at zero (y ∷ xs) x e = let same : y ≡ x = cc in ap (λ z. z ∷ xs) same
rest_at (suc n) (y ∷ xs) x e = rest_at n xs x e

low_at : (limit : ℕ) (xs : List ℕ) (n d : ℕ) → AreLow limit xs → slice_get xs n ≡ Some d → d ≤ limit
low_at limit [] n d a e = absurd (cc e)
low_at limit (x ∷ xs) zero d a e = let same : x ≡ d = cc in subst (λ y. y ≤ limit) same a.0
low_at limit (x ∷ xs) (suc n) d a e = low_at limit xs n d a.1 e

module _ {N P A K : Type 0} (rules : Rules N P A K) where
  -- a reading that counts is a reading
  pub weaker : {s : Stack N A K} {ks : List K} {steps : List (Step A)} → Reads rules (IsNotBegun rules) s ks steps → Reads rules (AnyEnd rules) s ks steps
  weaker over = over
  weaker (row_over d below ks steps r) = row_over d below ks steps (weaker r)
  weaker (read k row d below ks steps r) = read k row d below ks steps (weaker r)
  weaker (opened k row d below ks steps r) = opened k row d below ks steps (weaker r)
  weaker (acted a row d below ks steps r) = acted a row d below ks steps (weaker r)
  weaker (once n p row d below ks steps i r) = once n p row d below ks steps i (weaker r)
  weaker (taken n p row d below ks steps i r) = taken n p row d below ks steps i (weaker r)
  weaker (left_out n row d below ks steps m r) = left_out n row d below ks steps tt (weaker r)
  weaker (again n p row d below ks steps i r) = again n p row d below ks steps i (weaker r)
  weaker (ended n row d below ks steps m r) = ended n row d below ks steps tt (weaker r)

  pub not_wrong : (limit : ℕ) (tokens : List K) (place : ℕ) (steps : List (Step A)) → IsReading rules tokens steps → IsWrongAt rules limit tokens place → ⊥
  not_wrong limit tokens place steps r w = by (drop place tokens) refl w.wrong
    where
      by : (rest : List K) → drop place tokens ≡ rest → NoneGoesOn rules limit (take place tokens) rest → ⊥
      by [] e none =
          none steps (subst (λ (l : List K). IsAnyReading rules l steps)
          (sym (front_and_rest place tokens) ∙ ap (λ l. take place tokens ++ l) e ∙ append-nil (take place tokens))
          (weaker r))
      by (k ∷ rest) e none =
          none rest steps
          (subst (λ (l : List K). IsAnyReading rules l steps) (sym (front_and_rest place tokens) ∙ ap (λ l. take place tokens ++ l) e) (weaker r))

  pub not_deep : (limit : ℕ) (tokens : List K) (place : ℕ) (steps : List (Step A)) → IsReading rules tokens steps →
      AreLow limit (levels steps) → IsDeepAt rules limit tokens place → ⊥
  not_deep limit tokens place steps r low d =
      let whole : tokens ≡ take place tokens ++ d.kind ∷ drop (suc place) tokens =
      sym (front_and_rest place tokens) ∙ ap (λ l. take place tokens ++ l) (rest_at place tokens d.kind d.here) in
      let at = d.deep (drop (suc place) tokens) steps (subst (λ (l : List K). IsReading rules l steps) whole r) in
      absurd (omega (arith, low_at limit (levels steps) place (limit + 1) low at.there))
