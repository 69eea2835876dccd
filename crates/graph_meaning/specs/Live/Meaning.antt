-- What a formula means at each assignment that agrees with one on the tracks in use.
use Rattle.std.specs.Prelude.{◌≡◌, ◌↔◌, ℕ, ◌<◌, ◌≤◌}
use Rattle.gta_theory.specs.Assignments.{Position, Assignment, IsFinite, IsOnly}
use Rattle.ws2s_core.specs.declared.formula.Formula.{Formula}
use Rattle.ws2s_core.specs.Satisfaction.{WSat}

-- the assignment b is of finite sets, and has the first tracks of a
pub record Agrees (count : ℕ) (a b : Assignment) : Type 0 where
  pub finite : IsFinite b
  pub same : (t : ℕ) → t < count → b t ≡ a t

-- the formula on one track, whose bound tracks have numbers from `next` on, says this of the track's position
abbrev pub MeansHere : ℕ → Assignment → (ℕ → ℕ → Formula) → (Position → Type 0) → Type 0
MeansHere count a is P = (b : Assignment) (next x : ℕ) (p : Position) → Agrees count a b → count ≤ next → x < next → IsOnly (b x) p →
    WSat (is next x) b ↔ P p

-- the formula on two tracks says this of their positions
abbrev pub MeansPairs : ℕ → Assignment → (ℕ → ℕ → ℕ → Formula) → (Position → Position → Type 0) → Type 0
MeansPairs count a joins R = (b : Assignment) (next x y : ℕ) (p q : Position) → Agrees count a b → count ≤ next → x < next → y < next →
    IsOnly (b x) p → IsOnly (b y) q → WSat (joins next x y) b ↔ R p q
