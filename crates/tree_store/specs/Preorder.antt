-- Preorder: a position before those below it, and what is below its 0 before what is below its 1. (Textbook.)
use Rattle.std.specs.Prelude.{true, false, [], ◌∷◌}
use Rattle.gta_theory.specs.Assignments.{Position}

-- the one is above the other, or where they part it goes 0 and the other goes 1
abbrev pub ComesBefore : Position → Position → Type 0
ComesBefore [] [] = ⊥
ComesBefore [] (b ∷ q) = Unit {0}
ComesBefore (b ∷ p) [] = ⊥
ComesBefore (false ∷ p) (false ∷ q) = ComesBefore p q
ComesBefore (false ∷ p) (true ∷ q) = Unit {0}
ComesBefore (true ∷ p) (false ∷ q) = ⊥
ComesBefore (true ∷ p) (true ∷ q) = ComesBefore p q
