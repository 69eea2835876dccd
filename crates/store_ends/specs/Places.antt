-- Which cuts a code names.
use Rattle.std.specs.Prelude.{ℕ, List, [], ◌∷◌, ◌++◌}
use Rattle.store_exec.specs.declared.code.Tail.TheOpen.{Tail-F}
use Rattle.store_exec.specs.declared.code.Tail.TheFolds.{fold-Code}
use Rattle.store_exec.specs.declared.code.Code.{Code}

-- the places of the cuts that the tails of a code name, from the left
abbrev pub places_at : Tail-F (List ℕ) (List ℕ) → List ℕ
places_at (Tail-F.Cut place) = place ∷ []
places_at (Tail-F.Branch line c taken other) = taken ++ other

abbrev pub places_of : Code → List ℕ
places_of = fold-Code (List ℕ) (List ℕ) places_at (λ x. x.tail)
