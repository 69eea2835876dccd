-- The forms of a formula's distinct parts, in an order.
use Rattle.std.specs.Prelude.{◌≡◌, ◌↔◌, ℕ, ◌-◌, List, length, slice_get, Contains, Some}
use Rattle.ws2s_core.specs.declared.formula.Formula.{Formula}
use Rattle.ws2s_core.specs.declared.node.FormulaId.{FormulaId}
use Rattle.ws2s_core.specs.declared.node.Node.{Node}
use Rattle.ws2s_core.specs.Nodes.{formula_of_node, formulas_of, HasPartsBelow, IsOnceEach}
use Rattle.ws2s_core.specs.Parts.{IsPart}

-- the form of the formula at a place of the list
pub record IsFormAt (formulas : List Formula) (k : ℕ) (node : Node) : Type 0 where
  pub formula : slice_get formulas k ≡ Some (formula_of_node formulas node)
  pub below : HasPartsBelow k node

-- the numbers are 0, 1 and so on, and these are their forms
pub record AreForms (formulas : List Formula) (ids : List FormulaId) (nodes : List Node) : Type 0 where
  pub many : length nodes ≡ length ids
  pub numbered : (k : ℕ) (id : FormulaId) → slice_get ids k ≡ Some id → id.0 ≡ k
  pub forms : (k : ℕ) (node : Node) → slice_get nodes k ≡ Some node → IsFormAt formulas k node

-- exactly the formula's parts, each once, after its own parts; the formula's own form comes last
pub record AreNodesOf (f : Formula) (nodes : List Node) : Type 0 where
  pub once : IsOnceEach (formulas_of nodes)
  pub parts : (h : Formula) → IsPart f h ↔ Contains (formulas_of nodes) h
  pub earlier : (k : ℕ) (node : Node) → slice_get nodes k ≡ Some node → HasPartsBelow k node
  pub last : slice_get (formulas_of nodes) (length nodes - 1) ≡ Some f
