-- On the verdict by a formula's automaton.
use Rattle.std.proofs.Common.{ℕ, List}
use Rattle.gta_theory.specs.Assignments.{Assignment}
use Rattle.gta_theory.specs.Guides.{Spaces}
use Rattle.gta_theory.specs.Automata.{Accepts}
use Rattle.bdd_nodes.specs.Shelf.{Contents}
use Rattle.gta_core.specs.Auto.{AutoView, automaton_of}
use Rattle.gta_witness.specs.Lightest.{each_once, IsLightestTree, AreTooLarge}
use Rattle.gta_witness.proofs.LargeLemmas.{AreTooLarge-for}
use Rattle.ws2s_core.specs.declared.track.Track.{Track}
use Rattle.ws2s_core.specs.declared.formula.Formula.{Formula}
use Rattle.ws2s_core.specs.declared.label_tree.TreeNode.{TreeNode}
use Rattle.ws2s_core.specs.LabelTrees.{assignment_of}
use Rattle.ws2s_core.specs.Satisfaction.{WSat}
use Rattle.gta_keep.specs.Holding.{IsMinimalFor}
use Rattle.ws2s_decide.specs.Deciding.{IsUnsatisfiable, IsLightestModel}

module _ (g : Spaces) (shelf : Contents) (a : AutoView) (f : Formula) (minimal : IsMinimalFor g shelf a f) where
  -- it accepts nothing
  pub IsUnsatisfiable-none : ((tree : Assignment) → Accepts g (automaton_of shelf a) tree → ⊥) → IsUnsatisfiable f
  IsUnsatisfiable-none none n tree covers sat = none tree (((minimal.recognises).exactly n tree covers).1 sat)

  -- a lightest tree that it accepts
  pub IsLightestModel-tree : (tracks : List Track) (nodes : List TreeNode) (w : ℕ) →
      IsLightestTree g (automaton_of shelf a) tracks nodes w → IsLightestModel tracks f nodes w
  IsLightestModel-tree tracks nodes w tree = record {
    satisfies = ((minimal.recognises).exactly (tree.accepted).depth (assignment_of nodes) (tree.accepted).covers).0 tree.accepted;
    weighs = tree.weighs;
    room = tree.room;
    least = λ n other covers sat. tree.least n other covers (((minimal.recognises).exactly n other covers).1 sat);
  }

  -- lightest trees that it accepts are too large
  pub AreTooLarge-model : (tracks : List Track) → AreTooLarge (Accepts g (automaton_of shelf a)) (each_once tracks) → AreTooLarge (WSat f) (each_once tracks)
  AreTooLarge-model tracks = AreTooLarge-for (Accepts g (automaton_of shelf a)) (WSat f) (each_once tracks)
      (λ n tree covers accepts. ((minimal.recognises).exactly n tree covers).0 accepts)
      (λ n tree covers sat. ((minimal.recognises).exactly n tree covers).1 sat)
