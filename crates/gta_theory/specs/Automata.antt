-- Guided tree automata, from the leaves to the root, over any type of states. (Thatcher and Wright 1968; guided
-- automata: Klarlund and Schwartzbach 1993.)
use Rattle.std.specs.Prelude.{◌≡◌, ℕ, zero, suc, Bool, true, false, IsTrue}
use Rattle.labels.specs.Labels.{Label, empty_label}
use Rattle.gta_theory.specs.Assignments.{Assignment, Covers, half, root_label}
use Rattle.gta_theory.specs.Guides.{Spaces, IsSpace, left, right}

-- for each space an initial state, and a function of the states of the two children and the label; and which
-- states of space 0 are accepting
pub record Automaton (Q : Type 0) : Type 0 where
  pub initial : ℕ → Q
  pub step : ℕ → Q → Q → Label → Q
  pub accepting : Q → Bool

-- the value of an assignment in a space, to a depth
abbrev pub value : {Q : Type 0} → Spaces → Automaton Q → ℕ → ℕ → Assignment → Q
value g A s zero a = A.initial s
value g A s (suc n) a =
    A.step s (value g A (left g s) n (half false a)) (value g A (right g s) n (half true a)) (root_label a)

-- in every space the empty label over two initial children gives the initial state
pub record IsStable {Q : Type 0} (g : Spaces) (A : Automaton Q) : Type 0 where
  pub at : (s : ℕ) → IsSpace g s → A.step s (A.initial (left g s)) (A.initial (right g s)) empty_label ≡ A.initial s

-- the value in space 0, to a depth that covers the assignment, is accepting
pub record Accepts {Q : Type 0} (g : Spaces) (A : Automaton Q) (a : Assignment) : Type 0 where
  pub depth : ℕ
  pub covers : Covers depth a
  pub accepted : IsTrue (A.accepting (value g A 0 depth a))

-- the state is the value of some assignment in that space, to a depth that covers it
pub record IsValue {Q : Type 0} (g : Spaces) (A : Automaton Q) (s : ℕ) (q : Q) : Type 0 where
  pub assignment : Assignment
  pub depth : ℕ
  pub covers : Covers depth assignment
  pub is_value : value g A s depth assignment ≡ q

-- the number is a state of the space, by a table of states
abbrev pub Has : (ℕ → ℕ → Bool) → ℕ → ℕ → Type 0
Has states s q = IsTrue (states s q)
