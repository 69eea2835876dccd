-- The steps of a machine that makes automata of formulas on a stack: what they make of a stack, how many there are to come
-- at most, and which sums of Sizes come up on the way.
use Rattle.std.specs.Prelude.{◌≡◌, ℕ, ◌+◌, ◌*◌, ◌≤◌, List, [], ◌∷◌}
use Rattle.gta_theory.specs.Guides.{Spaces}
use Rattle.ws2s_core.specs.declared.track.Track.{Track}
use Rattle.ws2s_core.specs.declared.formula.Formula.{Formula}
use Rattle.ws2s_core.specs.declared.formula.Formula.TheVariants.{And, Not, Ex2}
use Rattle.ws2s_core.specs.declared.node.FormulaId.{FormulaId}
use Rattle.ws2s_core.specs.declared.node.Node.{Node}
use Rattle.ws2s_core.specs.Nodes.{formula_at}
use Rattle.ws2s_core.specs.Sizes.{node_count}
use Rattle.ws2s_theory.specs.Peaks.{HasMinimalSize, HasProductSize, HasSubsetSize, HasPeak}
use Rattle.ws2s_decide.specs.declared.task.Task.{Task}

-- a step: to make the automaton of a formula; to turn the last one over; to conjoin the last two, or to drop a track of the
-- last one, which gives the automaton of that formula
pub data Step : Type 0 where
  visit : Formula → Step
  negate : Step
  conjoin : Formula → Step
  quantify : Track → Formula → Step

-- the step that a task stands for, where formulas have numbers
abbrev pub step_of : List Formula → Task → Step
step_of formulas (Task.Visit id) = visit (formula_at formulas id.0)
step_of formulas Task.Negate = negate
step_of formulas (Task.Conjoin id) = conjoin (formula_at formulas id.0)
step_of formulas (Task.Quantify t id) = quantify t (formula_at formulas id.0)

-- the formula of the node is no atom
abbrev pub IsCompound : Node → Type 0
IsCompound (Node.And f h) = Unit {0}
IsCompound (Node.Not f) = Unit {0}
IsCompound (Node.Ex2 t f) = Unit {0}
IsCompound node = ⊥

-- the tasks for a formula that is no atom, by its node, before others: visits of its parts, and what makes it of them
abbrev pub tasks_for : FormulaId → Node → List Task → List Task
tasks_for id (Node.And f h) tasks = Task.Visit f ∷ Task.Visit h ∷ Task.Conjoin id ∷ tasks
tasks_for id (Node.Not f) tasks = Task.Visit f ∷ Task.Negate ∷ tasks
tasks_for id (Node.Ex2 t f) tasks = Task.Visit f ∷ Task.Quantify t id ∷ tasks
tasks_for id node tasks = tasks

-- the steps, one after the other, make one formula of the stack, the last made first
abbrev pub Makes : List Step → List Formula → Formula → Type 0
Makes [] [] out = ⊥
Makes [] (f ∷ []) out = f ≡ out
Makes [] (h ∷ (f ∷ stack)) out = ⊥
Makes (visit f ∷ steps) stack out = Makes steps (f ∷ stack) out
Makes (negate ∷ steps) [] out = ⊥
Makes (negate ∷ steps) (f ∷ stack) out = Makes steps (Not f ∷ stack) out
Makes (conjoin whole ∷ steps) [] out = ⊥
Makes (conjoin whole ∷ steps) (h ∷ []) out = ⊥
Makes (conjoin whole ∷ steps) (h ∷ (f ∷ stack)) out = (whole ≡ And f h) × Makes steps (whole ∷ stack) out
Makes (quantify t whole ∷ steps) [] out = ⊥
Makes (quantify t whole ∷ steps) (f ∷ stack) out = (whole ≡ Ex2 t f) × Makes steps (whole ∷ stack) out

-- how many steps are to come at most
abbrev pub steps_left : List Step → ℕ
steps_left [] = 0
steps_left (visit f ∷ steps) = 2 * node_count f + steps_left steps
steps_left (negate ∷ steps) = 1 + steps_left steps
steps_left (conjoin whole ∷ steps) = 1 + steps_left steps
steps_left (quantify t whole ∷ steps) = 1 + steps_left steps

-- the sum of the Sizes of minimal automata of the formulas
pub data HasSum (g : Spaces) : List Formula → ℕ → Type 0 where
  none : HasSum g [] 0
  more : (f : Formula) (formulas : List Formula) (m n : ℕ) → HasMinimalSize g f m → HasSum g formulas n →
      HasSum g (f ∷ formulas) (m + n)

-- beside automata of the stack a conjunction needs no more than n: the Sizes of both, of their product and of the result
abbrev pub ConjoinsWithin : Spaces → ℕ → List Formula → Formula → Formula → Type 0
ConjoinsWithin g n stack f h = (s a b c d : ℕ) → HasSum g stack s → HasMinimalSize g f a → HasMinimalSize g h b →
    HasProductSize g f h c → HasMinimalSize g (And f h) d → s + (a + b + c + d) ≤ n

-- and a quantifier: the Sizes of the part, of the subset automaton and of the result
abbrev pub QuantifiesWithin : Spaces → ℕ → List Formula → Track → Formula → Type 0
QuantifiesWithin g n stack t f = (s a b c : ℕ) → HasSum g stack s → HasMinimalSize g f a → HasSubsetSize g t f b →
    HasMinimalSize g (Ex2 t f) c → s + (a + b + c) ≤ n

-- no step on the way needs more than n beside automata of the stack that it finds: a visit its formula's peak
abbrev pub Within : Spaces → ℕ → List Step → List Formula → Type 0
Within g n [] stack = Unit {0}
Within g n (visit f ∷ steps) stack =
    ((s p : ℕ) → HasSum g stack s → HasPeak g f p → s + p ≤ n) × Within g n steps (f ∷ stack)
Within g n (negate ∷ steps) [] = Unit {0}
Within g n (negate ∷ steps) (f ∷ stack) = Within g n steps (Not f ∷ stack)
Within g n (conjoin whole ∷ steps) [] = Unit {0}
Within g n (conjoin whole ∷ steps) (h ∷ []) = Unit {0}
Within g n (conjoin whole ∷ steps) (h ∷ (f ∷ stack)) = ConjoinsWithin g n stack f h × Within g n steps (whole ∷ stack)
Within g n (quantify t whole ∷ steps) [] = Unit {0}
Within g n (quantify t whole ∷ steps) (f ∷ stack) = QuantifiesWithin g n stack t f × Within g n steps (whole ∷ stack)

-- no more than n is needed: not for the automata of the stack together, and on the way no step needs more
pub record Fits (g : Spaces) (n : ℕ) (steps : List Step) (stack : List Formula) : Type 0 where
  pub waiting : (s : ℕ) → HasSum g stack s → s ≤ n
  pub within : Within g n steps stack
