-- What deciding a formula gives, and what a decider keeps for the next one. (Thatcher and Wright 1968; Doner 1970; examples:
-- the MONA 1.4 User Manual.)
use Rattle.std.specs.Prelude.{◌≡◌, ℕ, ◌≤◌, List, length, All, Contains}
use Rattle.bdd_nodes.specs.Shelf.{Contents, IsShelf}
use Rattle.gta_theory.specs.Assignments.{Assignment, Covers}
use Rattle.gta_theory.specs.Guides.{Spaces}
use Rattle.gta_theory.specs.Weights.{weight}
use Rattle.gta_core.specs.Auto.{AutoView, IsAuto}
use Rattle.gta_witness.specs.Lightest.{each_once, HasWeight, HasRoom, AreTooLarge}
use Rattle.ws2s_core.specs.declared.track.Track.{Track}
use Rattle.ws2s_core.specs.declared.formula.Formula.{Formula}
use Rattle.ws2s_core.specs.declared.label_tree.TreeNode.{TreeNode}
use Rattle.ws2s_core.specs.LabelTrees.{assignment_of}
use Rattle.ws2s_core.specs.Satisfaction.{WSat}
use Rattle.ws2s_decide.specs.declared.verdict.Verdict.{Verdict}
use Rattle.ws2s_decide.specs.declared.decider.Decider.{Decider}
use Rattle.gta_keep.specs.Holding.{times, registered, kept_autos}
use Rattle.ws2s_decide.specs.Keeping.{IsKept}
use Rattle.ws2s_decide.specs.Own.{IsReady}

-- no assignment of finite sets satisfies the formula
abbrev pub IsUnsatisfiable : Formula → Type 0
IsUnsatisfiable f = (n : ℕ) (a : Assignment) → Covers n a → WSat f a → ⊥

-- the tree satisfies the formula, has so many bits on the tracks, and room, and no assignment that satisfies it has fewer bits
pub record IsLightestModel (tracks : List Track) (f : Formula) (nodes : List TreeNode) (w : ℕ) : Type 0 where
  pub satisfies : WSat f (assignment_of nodes)
  pub weighs : HasWeight tracks nodes w
  pub room : HasRoom w (length nodes)
  pub least : (n : ℕ) (a : Assignment) → Covers n a → WSat f a → w ≤ weight (each_once tracks) n a

-- the verdict on the formula, with these tracks weighed: none where it is unsatisfiable, a lightest model of it, or that those
-- are too large; a limit says nothing of its models
abbrev pub IsVerdict : List Track → Formula → Verdict → Type 0
IsVerdict tracks f Verdict.None = IsUnsatisfiable f
IsVerdict tracks f (Verdict.Witness nodes w) = IsLightestModel tracks f nodes w
IsVerdict tracks f Verdict.TooLarge = AreTooLarge (WSat f) (each_once tracks)
IsVerdict tracks f Verdict.Limit = Unit {0}

-- the guide that a decider decides under
abbrev pub guide_of : Decider → Spaces
guide_of decider = decider.guide

-- the automata that the decider keeps are there, each with a table of its own, and no other table is registered; each is a
-- minimal automaton of the formula under whose number it is kept; and so it is with the shelf that the decider owns
pub record HasKept (shelf : Contents) (decider : Decider) : Type 0 where
  pub is_shelf : IsShelf shelf
  pub each : (a : AutoView) → Contains (kept_autos decider.kept) a → IsAuto decider.guide shelf a
  pub tables : (table : ℕ) → times (kept_autos decider.kept) table ≡ registered shelf table
  pub minimal : All (IsKept decider.guide shelf decider.interner) decider.kept
  pub first : IsReady decider.interner decider.first
