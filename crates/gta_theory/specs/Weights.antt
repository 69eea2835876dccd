-- Weights of assignments on listed tracks, and the least weight that gives a state. (Dijkstra 1959, for trees: Knuth
-- 1977.)
use Rattle.std.specs.Prelude.{◌≡◌, ℕ, zero, suc, ◌+◌, ◌<◌, ◌≤◌, if◌then◌else◌, IsTrue, ◌⊎◌, true, false, List, [], ◌∷◌, Contains, Option, Some}
use Rattle.labels.specs.Labels.{Label}
use Rattle.gta_theory.specs.Assignments.{Position, Assignment, Covers, half, root_label}
use Rattle.gta_theory.specs.Guides.{Spaces, IsSpace, left, right}
use Rattle.gta_theory.specs.Automata.{Automaton, value, Accepts}

-- how many of the listed tracks the label has
abbrev pub label_weight : List ℕ → Label → ℕ
label_weight [] label = 0
label_weight (t ∷ tracks) label = (if label t then 1 else 0) + label_weight tracks label

-- how many pairs of a listed track and a position shorter than the depth the assignment has
abbrev pub weight : List ℕ → ℕ → Assignment → ℕ
weight tracks zero a = 0
weight tracks (suc n) a =
    label_weight tracks (root_label a) + (weight tracks n (half false a) + weight tracks n (half true a))

-- on the listed tracks every position of the first assignment is one of the second
abbrev pub IsWithinOn : List ℕ → Assignment → Assignment → Type 0
IsWithinOn tracks a b = (t : ℕ) (p : Position) → Contains tracks t → IsTrue (a t p) → IsTrue (b t p)

-- some assignment with that value in the space has that weight
pub record Weighs {Q : Type 0} (g : Spaces) (A : Automaton Q) (tracks : List ℕ) (s : ℕ) (q : Q) (w : ℕ) : Type 0 where
  pub assignment : Assignment
  pub depth : ℕ
  pub covers : Covers depth assignment
  pub is_value : value g A s depth assignment ≡ q
  pub is_weight : weight tracks depth assignment ≡ w

-- that weight is the least of those of the assignments with that value in the space
pub record IsLeastWeight {Q : Type 0} (g : Spaces) (A : Automaton Q) (tracks : List ℕ) (s : ℕ) (q : Q) (w : ℕ) :
    Type 0 where
  pub weighs : Weighs g A tracks s q w
  pub least : (n : ℕ) (a : Assignment) → Covers n a → value g A s n a ≡ q → w ≤ weight tracks n a

-- a table of weights: none where a state has no weight
abbrev pub WeightTable : Type 0 → Type 0
WeightTable Q = ℕ → Q → Option ℕ

-- the weight comes by a step from the table's weights of two states of lower rank
pub record IsStepWeight {Q : Type 0} (g : Spaces) (A : Automaton Q) (tracks : List ℕ) (weights : WeightTable Q)
    (rank : ℕ → Q → ℕ) (s : ℕ) (q : Q) (w : ℕ) : Type 0 where
  pub at_left : Q
  pub at_right : Q
  pub label : Label
  pub left_weight : ℕ
  pub right_weight : ℕ
  pub of_left : weights (left g s) at_left ≡ Some left_weight
  pub of_right : weights (right g s) at_right ≡ Some right_weight
  pub left_before : rank (left g s) at_left < rank s q
  pub right_before : rank (right g s) at_right < rank s q
  pub is_step : A.step s at_left at_right label ≡ q
  pub is_sum : label_weight tracks label + (left_weight + right_weight) ≡ w

-- the table is that of a search which has ended: initial states weigh nothing, each other weight comes by a step from
-- states that were settled earlier, and no step from states with weights gives less than the table has
pub record IsRelaxed {Q : Type 0} (g : Spaces) (A : Automaton Q) (tracks : List ℕ) (weights : WeightTable Q)
    (rank : ℕ → Q → ℕ) : Type 0 where
  pub initial : (s : ℕ) → IsSpace g s → weights s (A.initial s) ≡ Some 0
  pub attained : (s : ℕ) (q : Q) (w : ℕ) → IsSpace g s → weights s q ≡ Some w →
      ((A.initial s ≡ q) × (0 ≡ w)) ⊎ IsStepWeight g A tracks weights rank s q w
  pub no_less : (s : ℕ) (p q : Q) (label : Label) (u v : ℕ) → IsSpace g s →
      weights (left g s) p ≡ Some u → weights (right g s) q ≡ Some v →
      (w : ℕ) × (weights s (A.step s p q label) ≡ Some w) × (w ≤ label_weight tracks label + (u + v))

-- some accepted assignment has that weight, and no accepted one weighs less
pub record IsLightest {Q : Type 0} (g : Spaces) (A : Automaton Q) (tracks : List ℕ) (w : ℕ) : Type 0 where
  pub assignment : Assignment
  pub depth : ℕ
  pub covers : Covers depth assignment
  pub accepted : Accepts g A assignment
  pub is_weight : weight tracks depth assignment ≡ w
  pub least : (n : ℕ) (a : Assignment) → Covers n a → Accepts g A a → w ≤ weight tracks n a
