-- Boards with one more part.
use Rattle.std.proofs.Common.{◌≡◌, inl, inr, ℕ, ◌<◌, false, List, [], ◌∷◌, ◌++◌, length, slice_get, Some, sym, subst, arith, length-append}
use Rattle.gta_theory.proofs.ListedLemmas.{slice_get-push}
use Rattle.cert_check.specs.declared.board.Base.{Base}
use Rattle.cert_check.specs.declared.board.Part.{Part}
use Rattle.cert_check.specs.declared.board.Board.{Board}
use Rattle.cert_check.specs.Boards.{AreInside}
use Rattle.cert_check.specs.Standing.{AddsBase}

inside-more : (bases more : List Base) (parts : List Part) (part : Part) → AreInside bases parts → part.base < length (bases ++ more) →
    AreInside (bases ++ more) (parts ++ part ∷ [])
inside-more bases more parts part are here k other at = elim (slice_get-push parts part other k at) as (λ _. other.base < length (bases ++ more)) [
  | inl before ↦ (let h = are k other before in omega (arith, length-append bases more, h))
  | inr is ↦ subst (λ (p : Part). p.base < length (bases ++ more)) is.1 here
]

pub inside-base : (Is : Base → Type 0) (old new : Board) → AreInside old.bases old.parts → AddsBase Is old new → AreInside new.bases new.parts
inside-base Is old new are adds =
    subst (λ (bases : List Base). AreInside bases new.parts) (sym adds.bases)
    (subst (AreInside (old.bases ++ adds.base ∷ [])) (sym adds.parts)
    (inside-more old.bases (adds.base ∷ []) old.parts (record { base = length old.bases; is_negated = false }) are
    (omega (arith, length-append old.bases (adds.base ∷ [])))))

pub inside-part : (old new : Board) (inner part : Part) (k : ℕ) → AreInside old.bases old.parts → slice_get old.parts k ≡ Some inner →
    part.base ≡ inner.base → new.bases ≡ old.bases → new.parts ≡ old.parts ++ part ∷ [] → AreInside new.bases new.parts
inside-part old new inner part k are at same bases parts =
    subst (λ (bs : List Base). AreInside bs new.parts) (sym bases)
    (subst (AreInside old.bases) (sym parts) inside)
  where
    inside : AreInside old.bases (old.parts ++ part ∷ [])
    inside j other at_j = elim (slice_get-push old.parts part other j at_j) as (λ _. other.base < length old.bases) [
      | inl before ↦ are j other before
      | inr is ↦
          let h = are k inner at in
          subst (λ (p : Part). p.base < length old.bases) is.1 (omega (arith, same, h))
    ]
