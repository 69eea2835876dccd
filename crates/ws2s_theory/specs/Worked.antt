-- The words of the worked Sizes and Peaks.
use Rattle.std.specs.Prelude.{ℕ, zero, suc, [], ◌∷◌}
use Rattle.gta_theory.specs.Guides.{Spaces}
use Rattle.ws2s_core.specs.declared.formula.Formula.{Formula}
use Rattle.ws2s_core.specs.declared.formula.Formula.TheVariants.{Single, Sub, Root, And, Ex2}
use Rattle.ws2s_core.specs.Examples.{track}

-- the guide with one space, whose children it is itself
abbrev pub plain : Spaces
plain = (0, 0) ∷ []

-- "some set has one position", said of each track up to n
unfoldable pub some_each : ℕ → Formula
some_each zero = Ex2 (track 0) (Single (track 0))
some_each (suc n) = And (some_each n) (Ex2 (track (suc n)) (Single (track (suc n))))

-- "some set of track k, which is the root alone, is within the set of track t"
abbrev pub root_on : ℕ → ℕ → Formula
root_on k t = Ex2 (track k) (And (Root (track k)) (Sub (track k) (track t)))

-- that, said of each track up to n
unfoldable pub root_on_each : ℕ → ℕ → Formula
root_on_each k zero = root_on k 0
root_on_each k (suc n) = And (root_on_each k n) (root_on k (suc n))
