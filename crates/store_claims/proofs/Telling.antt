-- Minimal automata that read trees, and what their answers tell.
use Rattle.std.proofs.Common.{◌↔◌, Bool, IsTrue, List, length, Result, Ok, Err, IfOk}
use Rattle.gta_theory.specs.Guides.{Spaces}
use Rattle.gta_theory.specs.Automata.{Accepts}
use Rattle.bdd_nodes.specs.Shelf.{Contents}
use Rattle.gta_core.specs.Auto.{AutoView, guide_of, automaton_of, IsAuto}
use Rattle.gta_keep.specs.Holding.{IsMinimalFor}
use Rattle.ws2s_core.specs.declared.formula.Formula.{Formula}
use Rattle.ws2s_core.specs.declared.label_tree.TreeNode.{TreeNode}
use Rattle.ws2s_core.specs.LabelTrees.{assignment_of}
use Rattle.ws2s_core.specs.Satisfaction.{WSat}
use Rattle.ws2s_core.proofs.LabelTreesLemmas.{Covers-tree}

module _ (g : Spaces) (shelf : Contents) (auto : AutoView) (is : IsAuto g shelf auto) where
  -- over its own guide
  pub own-auto : IsAuto (guide_of auto) shelf auto
  own-auto = rw is.over is

  pub accepts-told : (f : Formula) → IsMinimalFor g shelf auto f → (nodes : List TreeNode) →
      Accepts (guide_of auto) (automaton_of shelf auto) (assignment_of nodes) ↔ WSat f (assignment_of nodes)
  accepts-told f minimal nodes = rw is.over (minimal.recognises.exactly (length nodes) (assignment_of nodes) (Covers-tree nodes))

-- the answer that tells the one tells the other
pub told-also : {E A B : Type 0} → A ↔ B → (result : Result Bool E) → IfOk result (λ answer. IsTrue answer ↔ A) → IfOk result (λ answer. IsTrue answer ↔ B)
told-also same (Ok answer) told = (λ is. same.0 (told.0 is), λ b. told.1 (same.1 b))
told-also same (Err stop) told = tt
