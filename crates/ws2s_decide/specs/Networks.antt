-- Verdicts by networks: what is found of a formula on the way from what is left of it back to all its tracks.
use Rattle.std.specs.Prelude.{ℕ, ◌∷◌, List, [], length}
use Rattle.bdd_nodes.specs.Shelf.{Contents}
use Rattle.gta_theory.specs.Guides.{Spaces}
use Rattle.gta_theory.specs.Automata.{Automaton, Accepts}
use Rattle.gta_core.specs.Auto.{AutoView}
use Rattle.gta_keep.specs.Holding.{Holds}
use Rattle.gta_pinned.specs.Alike.{AreAlikeOn}
use Rattle.gta_witness.specs.Lightest.{each_once, HasWeight, HasRoom}
use Rattle.ws2s_core.specs.declared.track.Track.{Track}
use Rattle.ws2s_core.specs.declared.formula.Formula.{Formula}
use Rattle.ws2s_core.specs.declared.label_tree.TreeNode.{TreeNode}
use Rattle.ws2s_core.specs.LabelTrees.{assignment_of}
use Rattle.ws2s_core.specs.Satisfaction.{WSat}
use Rattle.ws2s_theory.specs.Contexts.{SatisfiesAll}
use Rattle.ws2s_network.specs.Network.{AreEliminated, HaveBound}
use Rattle.ws2s_plan.specs.declared.network.Elimination.{Elimination}
use Rattle.ws2s_plan.specs.Plan.{gone_at}
use Rattle.ws2s_decide.specs.Going.{Releases}

-- whatever automata the shelf held, it holds, as they were
abbrev pub HoldsStill : Spaces → Contents → Contents → Type 0
HoldsStill g old new = (autos : List AutoView) → Holds g old autos → Releases g old new autos

-- both automata accept the tree, which has so many bits on the tracks, and room
pub record IsTreeOfBoth {Q R : Type 0} (g : Spaces) (A : Automaton Q) (B : Automaton R) (weigh : List Track) (nodes : List TreeNode) (w : ℕ) :
    Type 0 where
  pub by_first : Accepts g A (assignment_of nodes)
  pub by_second : Accepts g B (assignment_of nodes)
  pub weighs : HasWeight weigh nodes w
  pub room : HasRoom w (length nodes)

-- the new tree satisfies the bucket and has on the known tracks what the old one has; it has so many bits on the tracks, and room
pub record IsValued (weigh known : List Track) (bucket : Formula) (nodes new : List TreeNode) (w : ℕ) : Type 0 where
  pub alike : AreAlikeOn known (assignment_of nodes) (assignment_of new)
  pub satisfies : WSat bucket (assignment_of new)
  pub weighs : HasWeight weigh new w
  pub room : HasRoom w (length new)

-- the tree satisfies what these eliminations leave of the formula; it has so many bits on the tracks, and room, and nothing that
-- satisfies the formula has fewer
pub record IsModelOfLeft (formulas : List Formula) (weigh : List Track) (f : Formula) (gone : List Elimination) (nodes : List TreeNode) (w : ℕ) :
    Type 0 where
  pub left : List Formula
  pub eliminated : AreEliminated (each_once weigh) (gone_at formulas gone) (f ∷ []) left
  pub satisfies : SatisfiesAll left (assignment_of nodes)
  pub weighs : HasWeight weigh nodes w
  pub room : HasRoom w (length nodes)
  pub bound : HaveBound (each_once weigh) (f ∷ []) w
