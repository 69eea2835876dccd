-- Minimal automata, in each space. (The theorem of Myhill and Nerode for trees; guided: Biehl, Klarlund and Rauhe
-- 1996.)
use Rattle.std.specs.Prelude.{◌≡◌, ◌≢◌, ℕ, true, false, [], ◌∷◌}
use Rattle.labels.specs.Labels.{Label}
use Rattle.gta_theory.specs.Assignments.{Position, Assignment, Covers, half, root_label}
use Rattle.gta_theory.specs.Guides.{Spaces, IsSpace, left, right, space_at}
use Rattle.gta_theory.specs.Automata.{Automaton, value, IsStable, IsValue}
use Rattle.gta_theory.specs.Constructions.{IsReached}

-- the value of a tree with a hole: the state put in at a position, and beside the way to it the values of the
-- assignment's halves, each to the same depth
abbrev pub value_with : {Q : Type 0} → Spaces → Automaton Q → ℕ → Position → Q → ℕ → Assignment → Q
value_with g A s [] q n a = q
value_with g A s (false ∷ p) q n a =
    A.step s (value_with g A (left g s) p q n (half false a)) (value g A (right g s) n (half true a)) (root_label a)
value_with g A s (true ∷ p) q n a =
    A.step s (value g A (left g s) n (half false a)) (value_with g A (right g s) p q n (half true a)) (root_label a)

-- some tree with a hole at a position of that space is accepted with one of the two states and not with the other
pub record AreToldApart {Q : Type 0} (g : Spaces) (A : Automaton Q) (s : ℕ) (p q : Q) : Type 0 where
  pub hole : Position
  pub assignment : Assignment
  pub depth : ℕ
  pub covers : Covers depth assignment
  pub is_there : space_at g 0 hole ≡ s
  pub differs : A.accepting (value_with g A 0 hole p depth assignment)
      ≢ A.accepting (value_with g A 0 hole q depth assignment)

-- every state of a space is the value of some assignment there, and any two that differ are told apart; so a space
-- that no position has keeps one state
pub record IsMinimal {Q : Type 0} (g : Spaces) (A : Automaton Q) (has : ℕ → Q → Type 0) : Type 0 where
  pub stable : IsStable g A
  pub reached : IsReached g A has
  pub apart : (s : ℕ) (p q : Q) → IsSpace g s → has s p → has s q → p ≢ q → AreToldApart g A s p q

-- two states of a space are kept apart: one is accepting and the other isn't, or a step with some value beside them
-- keeps the results apart in a parent space
pub data AreSeparated {Q : Type 0} (g : Spaces) (A : Automaton Q) : ℕ → Q → Q → Type 0 where
  at_root : (p q : Q) → A.accepting p ≢ A.accepting q → AreSeparated g A 0 p q
  below_left : (s : ℕ) (p q beside : Q) (label : Label) → IsSpace g s → IsValue g A (right g s) beside →
      AreSeparated g A s (A.step s p beside label) (A.step s q beside label) → AreSeparated g A (left g s) p q
  below_right : (s : ℕ) (p q beside : Q) (label : Label) → IsSpace g s → IsValue g A (left g s) beside →
      AreSeparated g A s (A.step s beside p label) (A.step s beside q label) → AreSeparated g A (right g s) p q

-- one assignment has these two values in the space
pub record AreTwins {Q R : Type 0} (g : Spaces) (A : Automaton Q) (B : Automaton R) (s : ℕ) (p : Q) (q : R) :
    Type 0 where
  pub assignment : Assignment
  pub depth : ℕ
  pub covers : Covers depth assignment
  pub first : value g A s depth assignment ≡ p
  pub second : value g B s depth assignment ≡ q

-- the states of A and B are one to one in each space, by their assignments, and steps and acceptance go along
pub record AreAlike {Q R : Type 0} (g : Spaces) (A : Automaton Q) (has_A : ℕ → Q → Type 0) (B : Automaton R)
    (has_B : ℕ → R → Type 0) : Type 0 where
  pub there : (s : ℕ) (p : Q) → IsSpace g s → has_A s p → (q : R) × has_B s q × AreTwins g A B s p q
  pub back : (s : ℕ) (q : R) → IsSpace g s → has_B s q → (p : Q) × has_A s p × AreTwins g A B s p q
  pub one_there : (s : ℕ) (p : Q) (q r : R) → IsSpace g s → AreTwins g A B s p q → AreTwins g A B s p r → q ≡ r
  pub one_back : (s : ℕ) (p q : Q) (r : R) → IsSpace g s → AreTwins g A B s p r → AreTwins g A B s q r → p ≡ q
  pub initial : (s : ℕ) → IsSpace g s → AreTwins g A B s (A.initial s) (B.initial s)
  pub step : (s : ℕ) (p q : Q) (x y : R) (label : Label) → IsSpace g s → AreTwins g A B (left g s) p x →
      AreTwins g A B (right g s) q y → AreTwins g A B s (A.step s p q label) (B.step s x y label)
  pub accepting : (p : Q) (x : R) → AreTwins g A B 0 p x → A.accepting p ≡ B.accepting x
