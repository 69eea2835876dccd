-- What is kept for formulas that may be asked for again.
use Rattle.std.specs.Prelude.{◌≡◌, List, Some, slice_get}
use Rattle.bdd_nodes.specs.Shelf.{Contents}
use Rattle.gta_theory.specs.Guides.{Spaces}
use Rattle.gta_core.specs.Auto.{AutoView}
use Rattle.ws2s_core.specs.declared.formula.Formula.{Formula}
use Rattle.ws2s_core.specs.declared.node.FormulaId.{FormulaId}
use Rattle.gta_keep.specs.Holding.{IsMinimalFor}

-- the automaton that is kept under a number is a minimal one of the formula that has this number
pub record IsKept (g : Spaces) (shelf : Contents) (formulas : List Formula) (entry : FormulaId × AutoView) : Type 0 where
  pub formula : Formula
  pub there : slice_get formulas (entry.0).0 ≡ Some formula
  pub minimal : IsMinimalFor g shelf entry.1 formula
