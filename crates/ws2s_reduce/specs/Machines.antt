-- What the functions of the machine do to it.
use Rattle.std.specs.Prelude.{◌≡◌, ℕ, ◌+◌, ◌<◌, ◌≤◌, List, ◌∷◌, ◌++◌, length, take, drop, reverse}
use Rattle.ws2s_core.specs.declared.formula.Formula.{Formula}
use Rattle.ws2s_syntax.specs.declared.name.Argument.{Argument}
use Rattle.ws2s_syntax.specs.declared.declaration.Predicate.{Predicate}
use Rattle.ws2s_reduce.specs.declared.machine.Machine.{Machine}
use Rattle.ws2s_reduce.specs.Reducing.{used}
use Rattle.ws2s_reduce.specs.Building.{steps_of, finished, steps_work}

-- arguments were passed: what becomes of the tracks after the kept ones is what became of them and the arguments
pub record IsPassed (frame : List ℕ) (args : List Argument) (next : ℕ) (before : Machine) (after : ℕ) (now : Machine) :
    Type 0 where
  pub same : (predicates : List Predicate) (kept : ℕ) (body : ℕ → List ℕ → Formula) (rest : List Argument) →
      kept ≤ length before.tracks.items →
      finished predicates (steps_of now.tasks.items) (take kept now.tracks.items)
      (used body after frame rest (drop kept now.tracks.items) ∷ reverse now.parts.items)
      ≡ finished predicates (steps_of before.tasks.items) (take kept before.tracks.items)
      (used body next frame (args ++ rest) (drop kept before.tracks.items) ∷ reverse before.parts.items)
  pub longer : length before.tracks.items ≤ length now.tracks.items
  pub work : (predicates : List Predicate) →
      steps_work predicates (steps_of now.tasks.items) ≤ steps_work predicates (steps_of before.tasks.items) + length args

-- the formula will be finished next, in fewer steps than the work
pub record IsBuilt (predicates : List Predicate) (formula : Formula) (work : ℕ) (before now : Machine) : Type 0 where
  pub same : finished predicates (steps_of now.tasks.items) now.tracks.items (reverse now.parts.items)
      ≡ finished predicates (steps_of before.tasks.items) before.tracks.items (formula ∷ reverse before.parts.items)
  pub less : steps_work predicates (steps_of now.tasks.items) < work + steps_work predicates (steps_of before.tasks.items)
