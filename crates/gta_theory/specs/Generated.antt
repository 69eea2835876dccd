-- What a worklist finds: the states that steps make from the initial ones, and the names that it gives them.
use Rattle.std.specs.Prelude.{◌≡◌, ℕ, IsTrue, ◌↔◌}
use Rattle.labels.specs.Labels.{Label}
use Rattle.gta_theory.specs.Guides.{Spaces, IsSpace, left, right}
use Rattle.gta_theory.specs.Automata.{Automaton}
use Rattle.gta_theory.specs.Constructions.{Settled, IsStepOf, HasAccepting}

-- the initial state of a space, and what a step on any label makes of generated states of its children
pub data Generated {Q : Type 0} (g : Spaces) (A : Automaton Q) : ℕ → Q → Type 0 where
  starts : (s : ℕ) → IsSpace g s → Generated g A s (A.initial s)
  steps : (s : ℕ) (p q : Q) (label : Label) → IsSpace g s →
      Generated g A (left g s) p → Generated g A (right g s) q → Generated g A s (A.step s p q label)

-- every state is generated
pub record IsGenerated {Q : Type 0} (g : Spaces) (A : Automaton Q) (has : ℕ → Q → Type 0) : Type 0 where
  pub state : (s : ℕ) (q : Q) → IsSpace g s → has s q → Generated g A s q

-- the states of B name sets of states of A, each set once: initial ones the settled states, and steps and acceptance
-- go along, with the track t set or unset
pub record IsNamingSets {Q R : Type 0} (g : Spaces) (A : Automaton Q) (t : ℕ) (B : Automaton R)
    (has : ℕ → R → Type 0) (member : ℕ → R → Q → Type 0) : Type 0 where
  pub initial : (s : ℕ) (q : Q) → IsSpace g s → member s (B.initial s) q ↔ Settled g A t s q
  pub step : (s : ℕ) (x y : R) (label : Label) (q : Q) → IsSpace g s → has (left g s) x → has (right g s) y →
      member s (B.step s x y label) q ↔ IsStepOf A t s (member (left g s) x) (member (right g s) y) label q
  pub accepting : (x : R) → has 0 x → IsTrue (B.accepting x) ↔ HasAccepting A (member 0 x)
  pub once : (s : ℕ) (x y : R) → IsSpace g s → has s x → has s y →
      ((q : Q) → member s x q ↔ member s y q) → x ≡ y
