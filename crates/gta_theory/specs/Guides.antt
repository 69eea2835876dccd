-- Guides: each space has two child spaces, and space 0 belongs to the root. (Klarlund and Schwartzbach 1993;
-- the guided tree automata of MONA.)
use Rattle.std.specs.Prelude.{ℕ, ◌<◌, true, false, List, [], ◌∷◌, length, slice_get, unwrap_or}
use Rattle.gta_theory.specs.Assignments.{Position}

-- the pair of child spaces of each space, in order
abbrev pub Spaces : Type 0
Spaces = List (ℕ × ℕ)

-- the number names a space
abbrev pub IsSpace : Spaces → ℕ → Type 0
IsSpace g s = s < length g

-- the space of the left child, which is reached by 0
abbrev pub left : Spaces → ℕ → ℕ
left g s = (unwrap_or (slice_get g s) (0, 0)).0

-- the space of the right child, which is reached by 1
abbrev pub right : Spaces → ℕ → ℕ
right g s = (unwrap_or (slice_get g s) (0, 0)).1

-- there is a space, and every child is one
pub record IsGuide (g : Spaces) : Type 0 where
  pub not_empty : IsSpace g 0
  pub left_inside : (s : ℕ) → IsSpace g s → IsSpace g (left g s)
  pub right_inside : (s : ℕ) → IsSpace g s → IsSpace g (right g s)

-- the space of a position below a node of that space
abbrev pub space_at : Spaces → ℕ → Position → ℕ
space_at g s [] = s
space_at g s (false ∷ p) = space_at g (left g s) p
space_at g s (true ∷ p) = space_at g (right g s) p
