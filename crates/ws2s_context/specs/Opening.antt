-- Quantifiers opened: satisfiability and weights stay, where their tracks aren't weighed. (Klarlund and Møller, MONA Version 1.4
-- User Manual: free variables.)
use Rattle.std.specs.Prelude.{◌≡◌, ℕ, List, All, Contains}
use Rattle.gta_theory.specs.Assignments.{Assignment, IsFinite, Covers}
use Rattle.gta_theory.specs.Weights.{weight}
use Rattle.ws2s_core.specs.declared.track.Track.{Track}
use Rattle.ws2s_core.specs.declared.formula.Formula.{Formula}
use Rattle.ws2s_core.specs.Satisfaction.{WSat}
use Rattle.ws2s_theory.specs.Contexts.{conjoined}
use Rattle.ws2s_context.specs.declared.opening.Spine.{Spine}
use Rattle.ws2s_facts.specs.Conjuncts.{IsThere, formula_of, formulas_at}

-- an assignment that satisfies the formula and has that weight
pub record IsModel (tracks : List ℕ) (f : Formula) (w : ℕ) : Type 0 where
  pub assignment : Assignment
  pub depth : ℕ
  pub covers : Covers depth assignment
  pub satisfied : WSat f assignment
  pub is_weight : weight tracks depth assignment ≡ w

-- what satisfies the second formula satisfies the first; and for what satisfies the first something satisfies the second that
-- weighs the same on the tracks
pub record IsOpened (tracks : List ℕ) (f g : Formula) : Type 0 where
  pub satisfies : (a : Assignment) → IsFinite a → WSat g a → WSat f a
  pub satisfied : (n : ℕ) (a : Assignment) → Covers n a → WSat f a → IsModel tracks g (weight tracks n a)

-- the numbers are those of some of the tracks
abbrev pub AreOf : List Track → List ℕ → Type 0
AreOf weigh tracks = (t : Track) → Contains tracks t.0 → Contains weigh t

-- the formulas of a spine are there
pub record IsSpine (formulas : List Formula) (spine : Spine) : Type 0 where
  pub conjuncts_there : All (IsThere formulas) spine.conjuncts.items
  pub last_there : IsThere formulas spine.last

-- the conjuncts of a spine, and then what stands after them
abbrev pub spined : List Formula → Spine → Formula
spined formulas spine = conjoined (formulas_at formulas spine.conjuncts.items) (formula_of formulas spine.last)
