-- Quantifiers that wait before a formula, each with a number, the innermost first.
use Rattle.std.specs.Prelude.{◌≡◌, ℕ, ◌<◌, List, [], ◌∷◌}
use Rattle.std.specs.List.{AllByRecursion}
use Rattle.ws2s_core.specs.declared.formula.Formula.{Formula}
use Rattle.ws2s_core.specs.declared.formula.Formula.TheVariants.{Ex2}
use Rattle.ws2s_core.specs.Tracks.{is_free}
use Rattle.ws2s_narrow.specs.declared.pending.Waiting.{Waiting}
use Rattle.ws2s_narrow.specs.Narrowing.{sunk}

-- the formula with the quantifiers brought into it, one after the other
abbrev pub brought : List (ℕ × Waiting) → Formula → Formula
brought [] f = f
brought (next ∷ waiting) f = brought waiting (sunk next.1.track f)

-- the formula with the quantifiers before it
abbrev pub wrapped : List (ℕ × Waiting) → Formula → Formula
wrapped [] f = f
wrapped (next ∷ waiting) f = wrapped waiting (Ex2 next.1.track f)

-- each quantifier says whether its track is free where its turn comes
abbrev pub AreTold : List (ℕ × Waiting) → Formula → Type 0
AreTold [] f = Unit {0}
AreTold (next ∷ waiting) f = (next.1.used ≡ is_free next.1.track.0 f) × AreTold waiting (sunk next.1.track f)

-- the numbers grow
abbrev pub Ascends : {X : Type 0} → List (ℕ × X) → Type 0
Ascends [] = Unit {0}
Ascends (next ∷ waiting) = AllByRecursion (λ later. next.0 < later.0) waiting × Ascends waiting

-- the elements of the first list, in their order, are those of the second and those of the third one
pub data Woven {X : Type 0} : List X → List X → List X → Type 0 where
  none : Woven [] [] []
  one : {x : X} {all these those : List X} → Woven all these those → Woven (x ∷ all) (x ∷ these) those
  other : {x : X} {all these those : List X} → Woven all these those → Woven (x ∷ all) these (x ∷ those)
