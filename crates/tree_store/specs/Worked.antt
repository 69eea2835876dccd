-- What is laid out over the tables of small layouts, written out by hand.
use Rattle.std.specs.Prelude.{◌≡◌, ◌↔◌, ◌⊎◌, ℕ, ◌<◌, IsTrue, []}
use Rattle.gta_theory.specs.Assignments.{Position, Assignment}
use Rattle.ws2s_forms.specs.Places.{child_of, slot_of}

-- a list, with its cells on track 0 and its variable on track 1: each cell is in the slot or the only child of a cell, and
-- the variable is the cell in the slot, where one is there
pub record IsList (a : Assignment) : Type 0 where
  pub placed : (p : Position) → IsTrue (a 0 p) → (p ≡ slot_of 0) ⊎ ((q : Position) × IsTrue (a 0 q) × (p ≡ child_of 0 q))
  pub named : (p : Position) → IsTrue (a 1 p) ↔ ((p ≡ slot_of 0) × IsTrue (a 0 p))

-- a type without places, with two variants and a bool field on the tracks 0 to 2, and a bool variable on track 3: no cell is
-- anywhere, and the variable is the root or nothing
pub record IsSplit (a : Assignment) : Type 0 where
  pub nowhere : (t : ℕ) (p : Position) → t < 3 → IsTrue (a t p) → ⊥
  pub truth : (p : Position) → IsTrue (a 3 p) → p ≡ []
