-- What holds of the elements of a list, one after the other.
use Rattle.std.proofs.Common.{◌≡◌, ℕ, ◌<◌, ◌+◌, ◌≤◌, List, length, slice_get, Some, sym, ap, ◌∙◌, subst, arith, inl, inr, Contains}
use Rattle.std.proofs.lemmas.Bool.{cases_lt}
use Rattle.std.proofs.lemmas.Option.{same_Some, slice_get-get_or}

abbrev pub AllBelow : {X : Type 0} → (X → Type 0) → ℕ → List X → Type 0
AllBelow {X} P n xs = (j : ℕ) (x : X) → j < n → slice_get xs j ≡ Some x → P x

module _ {X : Type 0} (P : X → Type 0) (xs : List X) where
  pub AllBelow-next : (n : ℕ) (x : X) → slice_get xs n ≡ Some x → AllBelow P n xs → P x → AllBelow P (n + 1) xs
  AllBelow-next n x at before here j y less at_j = elim (cases_lt j n) [
    | inl earlier ↦ before j y earlier at_j
    | inr later ↦
        let place : j ≡ n = omega (arith, less, later) in
        subst P (sym (same_Some y x (sym at_j ∙ ap (λ k. slice_get xs k) place ∙ at))) here
  ]

  pub AllBelow-all : (n : ℕ) → length xs ≤ n → AllBelow P n xs → (x : X) → Contains xs x → P x
  AllBelow-all n all below x m = below m.0 x (omega (arith, all, m.1)) (slice_get-get_or xs m.0 x m.1 ∙ ap (λ (y : X). Some y) m.2)
