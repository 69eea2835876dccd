-- A machine on its way: the automata that wait are those of formulas of which its tasks make the formula that is asked for.
use Rattle.std.specs.Prelude.{◌≡◌, ℕ, ◌<◌, List, [], ◌∷◌, length, map, All, Contains}
use Rattle.bdd_nodes.specs.Shelf.{Contents, limit_of}
use Rattle.gta_theory.specs.Guides.{Spaces}
use Rattle.gta_core.specs.Auto.{AutoView}
use Rattle.gta_core.specs.Changes.{KeepsTable}
use Rattle.ws2s_core.specs.declared.formula.Formula.{Formula}
use Rattle.ws2s_core.specs.declared.node.FormulaId.{FormulaId}
use Rattle.ws2s_decide.specs.declared.task.Task.{Task}
use Rattle.gta_keep.specs.Holding.{Holds, IsMinimalFor, AreMinimalFor, beside}
use Rattle.ws2s_decide.specs.Keeping.{IsKept}
use Rattle.ws2s_decide.specs.Tasks.{Step, step_of, Makes, Fits, steps_left}

-- what there is at a moment: a shelf, the tasks that are still to be done, the automata that wait, and those that are kept
pub record Moment : Type 0 where
  pub shelf : Contents
  pub tasks : List Task
  pub automata : List AutoView
  pub kept : List (FormulaId × AutoView)

abbrev pub moment : Contents → List Task → List AutoView → List (FormulaId × AutoView) → Moment
moment shelf tasks automata kept = record { shelf = shelf; tasks = tasks; automata = automata; kept = kept }

-- the shelf holds the automata that wait and those that are kept, and no other; what is kept are minimal automata of the
-- formulas with their numbers
pub record Rests (g : Spaces) (formulas : List Formula) (shelf : Contents) (automata : List AutoView)
    (kept : List (FormulaId × AutoView)) : Type 0 where
  pub holds : Holds g shelf (beside automata [] kept)
  pub kept_for : All (IsKept g shelf formulas) kept

-- the steps that the tasks stand for
abbrev pub steps_of : List Formula → List Task → List Step
steps_of formulas tasks = map (step_of formulas) tasks

-- the number that the task names is there
abbrev pub IsNamedIn : List Formula → Task → Type 0
IsNamedIn formulas (Task.Visit id) = id.0 < length formulas
IsNamedIn formulas Task.Negate = Unit {0}
IsNamedIn formulas (Task.Conjoin id) = id.0 < length formulas
IsNamedIn formulas (Task.Quantify t id) = id.0 < length formulas

-- the automata that wait are minimal ones of the formulas on the stack, of which the tasks make the formula `out`
pub record Stands (g : Spaces) (formulas : List Formula) (now : Moment) (stack : List Formula) (out : Formula) : Type 0 where
  pub rests : Rests g formulas now.shelf now.automata now.kept
  pub minimal : AreMinimalFor g now.shelf now.automata stack
  pub makes : Makes (steps_of formulas now.tasks) stack out
  pub named : All (IsNamedIn formulas) now.tasks

-- it stands for some stack and some formula
pub record IsGoing (g : Spaces) (formulas : List Formula) (now : Moment) : Type 0 where
  pub stack : List Formula
  pub out : Formula
  pub stands : Stands g formulas now stack out

-- with fewer steps to come, and no more is needed than before
pub record GoesOn (g : Spaces) (steps : List Step) (stack : List Formula) (steps' : List Step) (stack' : List Formula) : Type 0 where
  pub fewer : steps_left steps' < steps_left steps
  pub fits : (n : ℕ) → Fits g n steps stack → Fits g n steps' stack'

-- it stands for the formula with some stack, further on than with those tasks and that stack
pub record StandsOn (g : Spaces) (formulas : List Formula) (tasks : List Task) (stack : List Formula) (now : Moment)
    (out : Formula) : Type 0 where
  pub stack' : List Formula
  pub stands : Stands g formulas now stack' out
  pub goes : GoesOn g (steps_of formulas tasks) stack (steps_of formulas now.tasks) stack'

-- whatever it stood for, it stands for, further on
abbrev pub Advances : Spaces → List Formula → Moment → Moment → Type 0
Advances g formulas old new = (stack : List Formula) (out : Formula) → Stands g formulas old stack out →
    StandsOn g formulas old.tasks stack new out

-- it stands for the formula with some stack, and needs no more than with those tasks and that stack
pub record StandsLater (g : Spaces) (formulas : List Formula) (tasks : List Task) (stack : List Formula) (now : Moment)
    (out : Formula) : Type 0 where
  pub stack' : List Formula
  pub stands : Stands g formulas now stack' out
  pub fits : (n : ℕ) → Fits g n (steps_of formulas tasks) stack → Fits g n (steps_of formulas now.tasks) stack'

-- whatever it stood for, it stands for, and needs no more
abbrev pub Follows : Spaces → List Formula → Moment → Moment → Type 0
Follows g formulas old new = (stack : List Formula) (out : Formula) → Stands g formulas old stack out →
    StandsLater g formulas old.tasks stack new out

-- the automata that wait, or the steps to come, need more than the shelf's limit: there is no bound within it
abbrev pub NeedsMore : Spaces → List Formula → Moment → Type 0
NeedsMore g formulas now = (stack : List Formula) (out : Formula) (n : ℕ) → Stands g formulas now stack out →
    Fits g n (steps_of formulas now.tasks) stack → limit_of now.shelf < n

-- the formula's automaton waits alone, and nothing is to be done
pub record HasMade (g : Spaces) (formulas : List Formula) (now : Moment) (out : Formula) : Type 0 where
  pub auto : AutoView
  pub alone : now.automata ≡ auto ∷ []
  pub minimal : IsMinimalFor g now.shelf auto out
  pub rests : Rests g formulas now.shelf now.automata now.kept

-- whatever formula it stood for, that is made
abbrev pub EndsWith : Spaces → List Formula → Moment → Moment → Type 0
EndsWith g formulas old new = (stack : List Formula) (out : Formula) → Stands g formulas old stack out → HasMade g formulas new out

-- the tables of the automata stay registered, each root with its function
abbrev pub KeepsTables : Contents → Contents → List AutoView → Type 0
KeepsTables old new autos = (a : AutoView) → Contains autos a → KeepsTable old new a.table

-- some automata were released, and the shelf holds these others, as they were
pub record Releases (g : Spaces) (old new : Contents) (others : List AutoView) : Type 0 where
  pub holds : Holds g new others
  pub tables : KeepsTables old new others
  pub limit : limit_of new ≡ limit_of old
