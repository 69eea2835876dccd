-- How a network is made, step by step.
use Rattle.std.specs.Prelude.{◌≡◌, ℕ, ◌≤◌, ◌↔◌, true, List, [], ◌∷◌, length, All, Contains, nat_eq}
use Rattle.std.specs.HashSet.{contains}
use Rattle.gta_theory.specs.Assignments.{Assignment, IsFinite}
use Rattle.ws2s_core.specs.declared.track.Track.{Track}
use Rattle.ws2s_core.specs.declared.formula.Formula.{Formula}
use Rattle.ws2s_core.specs.declared.formula.Formula.TheVariants.{And}
use Rattle.ws2s_core.specs.declared.node.FormulaId.{FormulaId}
use Rattle.ws2s_core.specs.Satisfaction.{WSat}
use Rattle.ws2s_core.specs.Tracks.{IsFree}
use Rattle.ws2s_facts.specs.Conjuncts.{IsThere, formula_of, formulas_at}
use Rattle.ws2s_context.specs.Opening.{AreOf}
use Rattle.ws2s_lean.specs.Conjunctions.{SatisfiesEach}
use Rattle.ws2s_network.specs.Network.{IsEliminated, AreEliminated}
use Rattle.ws2s_plan.specs.Plan.{gone_at}
use Rattle.ws2s_plan.specs.declared.conjuncts.Taking.{Taking}
use Rattle.ws2s_plan.specs.declared.eliminating.Parted.{Parted}
use Rattle.ws2s_plan.specs.declared.eliminating.Eliminated.{Eliminated}
use Rattle.ws2s_plan.specs.declared.planning.Planning.{Planning}

-- the formula is the conjunction of both, if it is one of the formulas
pub record AreHalves (formulas : List Formula) (id : FormulaId) (halves : FormulaId × FormulaId) : Type 0 where
  pub whole : formula_of formulas id ≡ And (formula_of formulas halves.0) (formula_of formulas halves.1)
  pub left_there : IsThere formulas halves.0
  pub right_there : IsThere formulas halves.1

-- exactly what satisfies the formulas that are looked at, those that wait and those that were found satisfies the formula
pub record IsTaking (formulas : List Formula) (f : Formula) (looked_at : List FormulaId) (taking : Taking) : Type 0 where
  pub waiting_there : All (IsThere formulas) taking.waiting.items
  pub looked_at_there : All (IsThere formulas) looked_at
  pub found_there : All (IsThere formulas) taking.found.items
  pub known : (k : ℕ) → contains nat_eq taking.known k ≡ true → Contains taking.found.items (record { 0 = k })
  pub exactly : (a : Assignment) → IsFinite a → WSat f a ↔
      (SatisfiesEach formulas looked_at a × SatisfiesEach formulas taking.waiting.items a × SatisfiesEach formulas taking.found.items a)

-- exactly what satisfies the members, the others and what is still to be parted satisfies the conjuncts; no other has the track free
pub record IsParted (formulas : List Formula) (t : Track) (units rest : List FormulaId) (parted : Parted) : Type 0 where
  pub rest_there : All (IsThere formulas) rest
  pub members_there : All (IsThere formulas) parted.members.items
  pub others_there : All (IsThere formulas) parted.others.items
  pub exactly : (a : Assignment) → SatisfiesEach formulas units a ↔
      (SatisfiesEach formulas rest a × SatisfiesEach formulas parted.members.items a × SatisfiesEach formulas parted.others.items a)
  pub lack : All (λ id. ¬ IsFree t.0 (formula_of formulas id)) parted.others.items
  pub within : parted.place ≤ length parted.others.items

-- the track was eliminated from the conjuncts
pub record IsEliminatedBy (formulas : List Formula) (t : Track) (units : List FormulaId) (made : Eliminated) : Type 0 where
  pub bucket_there : IsThere formulas made.bucket
  pub left_there : All (IsThere formulas) made.left.items
  pub eliminated : IsEliminated t.0 (formula_of formulas made.bucket) (formulas_at formulas units) (formulas_at formulas made.left.items)

-- a formula's conjuncts on the way: by what was eliminated from it they are left, and no track that waits is weighed
pub record IsPlanning (formulas : List Formula) (weigh : List Track) (f : Formula) (planning : Planning) : Type 0 where
  pub units_there : All (IsThere formulas) planning.units.items
  pub buckets_there : All (λ one. IsThere formulas one.bucket) planning.eliminations
  pub unweighed : All (λ t. ¬ Contains weigh t) planning.waiting.items
  pub eliminated : (weighed : List ℕ) → AreOf weigh weighed →
      AreEliminated weighed (gone_at formulas planning.eliminations) (f ∷ []) (formulas_at formulas planning.units.items)
