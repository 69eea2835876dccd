-- Lists in order, with one element more.
use Rattle.std.proofs.Common.{◌≡◌, inl, inr, ℕ, ◌+◌, ◌-◌, Bool, true, List, [], ◌∷◌, ◌++◌, length, Some, None, slice_get}
use Rattle.std.proofs.Common.{refl, ap, sym, ◌∙◌, subst, arith}
use Rattle.std.specs.Prelude.{◌↔◌, IsTrue}
use Rattle.std.proofs.lemmas.Option.{slice_get_within}
use Rattle.gta_theory.proofs.ListedLemmas.{slice_get-front, slice_get-last, slice_get-push}
use Rattle.cert_tables.specs.Orders.{AreInOrder}
use Rattle.cert_tables.proofs.TestsLemmas.{same-some}

none-some : {X : Type 0} (x : X) → None ≡ Some x → ⊥
none-some x e = cc

module _ {X : Type 0} (Before : X → X → Type 0) where
  pub order-push : (xs : List X) (y : X) → AreInOrder Before xs → ((x : X) → slice_get xs (length xs - 1) ≡ Some x → Before x y) →
      AreInOrder Before (xs ++ y ∷ [])
  order-push xs y order behind k x z at next = elim (slice_get-push xs y z (k + 1) next) as (λ _. Before x z) [
    | inl old ↦
        let inside = slice_get_within xs (k + 1) z old in
        order k x z (sym (slice_get-front xs (y ∷ []) k (omega (arith, inside))) ∙ at) old
    | inr new ↦
        let here = new.0 in
        let place : k ≡ length xs - 1 = omega (arith, here) in
        subst (Before x) new.1
        (behind x (ap (λ (n : ℕ). slice_get xs n) (sym place) ∙ sym (slice_get-front xs (y ∷ []) k (omega (arith, here))) ∙ at))
  ]

  pub order-last : (xs : List X) (y x : X) → AreInOrder Before (xs ++ y ∷ []) → slice_get xs (length xs - 1) ≡ Some x → Before x y
  order-last xs y x order at =
      let inside = slice_get_within xs (length xs - 1) x at in
      let place : length xs - 1 + 1 ≡ length xs = omega (arith, inside) in
      order (length xs - 1) x y (slice_get-front xs (y ∷ []) (length xs - 1) inside ∙ at)
      (ap (λ (n : ℕ). slice_get (xs ++ y ∷ []) n) place ∙ slice_get-last xs y)

  -- the test of the last one says it
  pub order-none : (xs : List X) (y : X) → AreInOrder Before xs → None ≡ slice_get xs (length xs - 1) → IsTrue true ↔ AreInOrder Before (xs ++ y ∷ [])
  order-none xs y order none = ((λ yes. order-push xs y order (λ x at. absurd (none-some x (none ∙ at)))), (λ _. refl))

  pub order-some : (xs : List X) (y x : X) (b : Bool) → AreInOrder Before xs → Some x ≡ slice_get xs (length xs - 1) → IsTrue b ↔ Before x y →
      IsTrue b ↔ AreInOrder Before (xs ++ y ∷ [])
  order-some xs y x b order last is = (
    (λ yes. order-push xs y order (λ other at. subst (λ (z : X). Before z y) (same-some x other (last ∙ at)) (is.0 yes))),
    (λ more. is.1 (order-last xs y x more (sym last))),
  )
