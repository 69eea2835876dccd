-- Automata that recognise formulas. (Thatcher and Wright 1968; Doner 1970.)
use Rattle.std.specs.Prelude.{ℕ, ◌↔◌}
use Rattle.gta_theory.specs.Assignments.{Assignment, Covers}
use Rattle.gta_theory.specs.Guides.{Spaces}
use Rattle.gta_theory.specs.Automata.{Automaton, IsStable, Accepts}
use Rattle.gta_theory.specs.Minimal.{IsMinimal}
use Rattle.ws2s_core.specs.declared.formula.Formula.{Formula}
use Rattle.ws2s_core.specs.Satisfaction.{WSat}

-- the automaton is stable, and accepts exactly the assignments that satisfy the formula
pub record Recognises {Q : Type 0} (g : Spaces) (A : Automaton Q) (f : Formula) : Type 0 where
  pub stable : IsStable g A
  pub exactly : (n : ℕ) (a : Assignment) → Covers n a → Accepts g A a ↔ WSat f a

-- these are the states of a minimal automaton of the formula
pub record IsMinimalOf {Q : Type 0} (g : Spaces) (A : Automaton Q) (has : ℕ → Q → Type 0) (f : Formula) : Type 0 where
  pub minimal : IsMinimal g A has
  pub recognises : Recognises g A f
