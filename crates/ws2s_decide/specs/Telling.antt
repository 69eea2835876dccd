-- What is told of a formula by another.
use Rattle.std.specs.Prelude.{List, ℕ}
use Rattle.ws2s_core.specs.declared.track.Track.{Track}
use Rattle.ws2s_core.specs.declared.formula.Formula.{Formula}
use Rattle.ws2s_core.specs.declared.label_tree.TreeNode.{TreeNode}
use Rattle.ws2s_decide.specs.Deciding.{IsUnsatisfiable, IsLightestModel}

-- where the first formula is unsatisfiable the second is, and a lightest model of the first is one of the second
pub record TellsOf (tracks : List Track) (g f : Formula) : Type 0 where
  pub none : IsUnsatisfiable g → IsUnsatisfiable f
  pub model : (nodes : List TreeNode) (w : ℕ) → IsLightestModel tracks g nodes w → IsLightestModel tracks f nodes w
