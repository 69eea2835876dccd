-- The complement, the product, the subset automaton, and other names for states. (Textbook: Comon and others,
-- Tree Automata Techniques and Applications, chapter 1.)
use Rattle.std.specs.Prelude.{◌≡◌, ℕ, Bool, not, ◌&&◌, IsTrue, ◌↔◌}
use Rattle.labels.specs.Labels.{Label, with_track, HasAtMost}
use Rattle.gta_theory.specs.Guides.{Spaces, IsSpace, left, right}
use Rattle.gta_theory.specs.Automata.{Automaton, IsValue}

-- the same automaton with the other states accepting
abbrev pub complement : {Q : Type 0} → Automaton Q → Automaton Q
complement A = record { initial = A.initial; step = A.step; accepting = λ q. not (A.accepting q) }

-- the automaton of pairs of states, which accepts where both do
abbrev pub pairs : {Q R : Type 0} → Automaton Q → Automaton R → Automaton (Q × R)
pairs A B = record {
  initial = λ s. (A.initial s, B.initial s);
  step = λ s p q label. (A.step s p.0 q.0 label, B.step s p.1 q.1 label);
  accepting = λ q. A.accepting q.0 && B.accepting q.1;
}

-- these are the states: exactly the values of assignments in each space
pub record IsReached {Q : Type 0} (g : Spaces) (A : Automaton Q) (has : ℕ → Q → Type 0) : Type 0 where
  pub state : (s : ℕ) (q : Q) → IsSpace g s → has s q ↔ IsValue g A s q

-- the states hold the initial ones, and are closed under steps
pub record IsClosed {Q : Type 0} (g : Spaces) (A : Automaton Q) (has : ℕ → Q → Type 0) : Type 0 where
  pub initial : (s : ℕ) → IsSpace g s → has s (A.initial s)
  pub step : (s : ℕ) (p q : Q) (label : Label) → IsSpace g s → has (left g s) p → has (right g s) q →
      has s (A.step s p q label)

-- each state of A is a name of a state of B, and the steps go along
pub record IsNaming {Q R : Type 0} (g : Spaces) (A : Automaton Q) (has : ℕ → Q → Type 0) (B : Automaton R)
    (name : ℕ → Q → R) : Type 0 where
  pub initial : (s : ℕ) → IsSpace g s → name s (A.initial s) ≡ B.initial s
  pub step : (s : ℕ) (p q : Q) (label : Label) → IsSpace g s → has (left g s) p → has (right g s) q →
      name s (A.step s p q label) ≡ B.step s (name (left g s) p) (name (right g s) q) label
  pub accepting : (q : Q) → has 0 q → A.accepting q ≡ B.accepting (name 0 q)

-- no state of B has two names in one space
pub record IsOnce {Q R : Type 0} (g : Spaces) (has : ℕ → Q → Type 0) (name : ℕ → Q → R) : Type 0 where
  pub once : (s : ℕ) (p q : Q) → IsSpace g s → has s p → has s q → name s p ≡ name s q → p ≡ q

-- C is the product of A and B: its states name pairs, each once, and only those pairs that are values
pub record IsProduct {Q R S : Type 0} (g : Spaces) (A : Automaton Q) (B : Automaton R) (C : Automaton S)
    (has : ℕ → S → Type 0) (pair : ℕ → S → Q × R) : Type 0 where
  pub reached : IsReached g C has
  pub naming : IsNaming g C has (pairs A B) pair
  pub once : IsOnce g has pair

-- the least sets of states that hold the initial ones and are closed under steps on a label with at most the track t
pub data Settled {Q : Type 0} (g : Spaces) (A : Automaton Q) (t : ℕ) : ℕ → Q → Type 0 where
  starts : (s : ℕ) → IsSpace g s → Settled g A t s (A.initial s)
  steps : (s : ℕ) (p q : Q) (label : Label) → IsSpace g s → HasAtMost t label →
      Settled g A t (left g s) p → Settled g A t (right g s) q → Settled g A t s (A.step s p q label)

-- the state comes by a step of A, with the track t set or unset, from a state of each of two sets
pub record IsStepOf {Q : Type 0} (A : Automaton Q) (t s : ℕ) (Left Right : Q → Type 0) (label : Label) (q : Q) :
    Type 0 where
  pub left : Q
  pub right : Q
  pub bit : Bool
  pub in_left : Left left
  pub in_right : Right right
  pub is_step : A.step s left right (with_track label t bit) ≡ q

-- some state of the set is accepting
pub record HasAccepting {Q : Type 0} (A : Automaton Q) (Set : Q → Type 0) : Type 0 where
  pub state : Q
  pub inside : Set state
  pub accepting : IsTrue (A.accepting state)

-- B is the subset automaton of A that drops the track t: its states name sets of states of A, each once, and only
-- those sets that are values
pub record IsSubset {Q R : Type 0} (g : Spaces) (A : Automaton Q) (t : ℕ) (B : Automaton R)
    (has : ℕ → R → Type 0) (member : ℕ → R → Q → Type 0) : Type 0 where
  pub reached : IsReached g B has
  pub initial : (s : ℕ) (q : Q) → IsSpace g s → member s (B.initial s) q ↔ Settled g A t s q
  pub step : (s : ℕ) (x y : R) (label : Label) (q : Q) → IsSpace g s → has (left g s) x → has (right g s) y →
      member s (B.step s x y label) q ↔ IsStepOf A t s (member (left g s) x) (member (right g s) y) label q
  pub accepting : (x : R) → has 0 x → IsTrue (B.accepting x) ↔ HasAccepting A (member 0 x)
  pub once : (s : ℕ) (x y : R) → IsSpace g s → has s x → has s y →
      ((q : Q) → member s x q ↔ member s y q) → x ≡ y
