-- What holds of every element of a list, looked at one after the other.
use Rattle.std.proofs.Common.{ℕ, ◌+◌, ◌<◌, ◌≤◌, true, false, List, length, take, get_or, Contains, refl, subst, inl, inr, arith}
use Rattle.std.specs.Prelude.{◌↔◌, IsTrue}
use Rattle.std.proofs.lemmas.Bool.{false≢true}
use Rattle.std.proofs.lemmas.List.{take_more, take_all}
use Rattle.std.proofs.lemmas.List.Elements.{Contains-get_or}
use Rattle.cert_nodes.proofs.WalksLemmas.{push-cases}

module _ {X : Type 0} (P : X → Type 0) where
  abbrev Every : List X → Type 0
  Every xs = (x : X) → Contains xs x → P x

  pub every-none : (xs : List X) → Every (take 0 xs)
  every-none xs x listed = absurd (omega (arith, listed.1))

  pub every-more : (xs : List X) (i : ℕ) (none : X) → i < length xs → Every (take i xs) → P (get_or xs i none) → Every (take (i + 1) xs)
  every-more xs i none inside before here x listed =
      elim (push-cases (take i xs) (get_or xs i none) x (subst (λ (ys : List X). Contains ys x) (take_more xs i none inside) listed)) [
        | inl earlier ↦ before x earlier
        | inr is ↦ subst P is here
      ]

  pub every-fails : (xs : List X) (i : ℕ) (none : X) → i < length xs → (P (get_or xs i none) → ⊥) → IsTrue false ↔ Every xs
  every-fails xs i none inside fails = (
    (λ yes. absurd (false≢true yes)),
    (λ every. absurd (fails (every (get_or xs i none) (Contains-get_or xs i none inside)))),
  )

  pub every-whole : (xs : List X) (i : ℕ) → length xs ≤ i → Every (take i xs) → IsTrue true ↔ Every xs
  every-whole xs i all every = ((λ yes. subst Every (take_all i xs all) every), (λ every. refl))
