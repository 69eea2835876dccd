-- A machine that rewrites formulas in their contexts: what its tasks and what it rewrote stand for.
use Rattle.std.specs.Prelude.{◌≡◌, List, ◌∷◌, All}
use Rattle.ws2s_core.specs.declared.track.Track.{Track}
use Rattle.ws2s_core.specs.declared.formula.Formula.{Formula}
use Rattle.ws2s_core.specs.declared.formula.Formula.TheVariants.{And, Not, Ex2}
use Rattle.ws2s_core.specs.declared.node.FormulaId.{FormulaId}
use Rattle.ws2s_core.specs.Tracks.{IsFree}
use Rattle.ws2s_theory.specs.Contexts.{SameUnder}
use Rattle.ws2s_context.specs.declared.task.Place.{Place}
use Rattle.ws2s_context.specs.declared.task.Task.{Task}
use Rattle.ws2s_context.specs.declared.rewritings.Rewriting.{Rewriting}
use Rattle.ws2s_facts.specs.Conjuncts.{IsThere, IsContext, formula_of, context_at, Implies}

-- the formula and the context are there
pub record IsPlace (formulas : List Formula) (place : Place) : Type 0 where
  pub id_there : IsThere formulas place.id
  pub context_there : IsContext formulas place.context

-- the formula of a place, and its context
abbrev pub whole : List Formula → Place → Formula
whole formulas place = formula_of formulas place.id

abbrev pub around : List Formula → Place → List Formula
around formulas place = context_at formulas place.context

-- the formula agrees with the second one wherever its context holds
pub record IsSame (formulas : List Formula) (place : Place) (to : FormulaId) : Type 0 where
  pub here : IsPlace formulas place
  pub to_there : IsThere formulas to
  pub same : SameUnder (around formulas place) (whole formulas place) (formula_of formulas to)

abbrev pub IsRewriting : List Formula → Rewriting → Type 0
IsRewriting formulas rewriting = IsSame formulas rewriting.place rewriting.to

-- a conjunction, and the contexts of its halves
pub record IsConjoining (formulas : List Formula) (place left right : Place) : Type 0 where
  pub here : IsPlace formulas place
  pub left_here : IsPlace formulas left
  pub right_here : IsPlace formulas right
  pub is : whole formulas place ≡ And (whole formulas left) (whole formulas right)
  pub in_left : Implies (around formulas place) (around formulas left)
  pub in_right : Implies (whole formulas left ∷ around formulas place) (around formulas right)

-- a conjunction, the left half with its context, and the right half
pub record IsTurning (formulas : List Formula) (place left : Place) (right : FormulaId) : Type 0 where
  pub here : IsPlace formulas place
  pub left_here : IsPlace formulas left
  pub right_there : IsThere formulas right
  pub is : whole formulas place ≡ And (whole formulas left) (formula_of formulas right)
  pub in_left : Implies (around formulas place) (around formulas left)

-- a negation, and what it negates in the same context
pub record IsNegating (formulas : List Formula) (place inner : Place) : Type 0 where
  pub here : IsPlace formulas place
  pub inner_here : IsPlace formulas inner
  pub is : whole formulas place ≡ Not (whole formulas inner)
  pub in_inner : place.context ≡ inner.context

-- a quantifier, and the context of what it stands before, which hasn't the track free
pub record IsQuantifying (formulas : List Formula) (place : Place) (t : Track) (inner : Place) : Type 0 where
  pub here : IsPlace formulas place
  pub inner_here : IsPlace formulas inner
  pub is : whole formulas place ≡ Ex2 t (whole formulas inner)
  pub in_inner : Implies (around formulas place) (around formulas inner)
  pub unbound : All (λ c. IsFree t.0 c → ⊥) (around formulas inner)

-- what a task is about is there, and its contexts hold
abbrev pub IsSound : List Formula → Task → Type 0
IsSound formulas (Task.Visit place) = IsPlace formulas place
IsSound formulas (Task.Turn place left right) = IsTurning formulas place left right
IsSound formulas (Task.Conjoin place left right) = IsConjoining formulas place left right
IsSound formulas (Task.Negate place inner) = IsNegating formulas place inner
IsSound formulas (Task.Quantify place t inner) = IsQuantifying formulas place t inner

-- each task is sound, and each rewriting is the same in its context
pub record IsGoing (formulas : List Formula) (tasks : List Task) (rewritings : List Rewriting) : Type 0 where
  pub sound : All (IsSound formulas) tasks
  pub made : All (IsRewriting formulas) rewritings
