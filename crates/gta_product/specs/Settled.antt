-- Pairs of which no more come, with a part for each space.
use Rattle.std.specs.Prelude.{◌≡◌, ℕ, List, length, Some, slice_get}
use Rattle.std.specs.List.{range_with_len}
use Rattle.bdd_nodes.specs.declared.node_ref.NodeRef.{NodeRef}
use Rattle.bdd_nodes.specs.Shelf.{Contents}
use Rattle.gta_theory.specs.Guides.{Spaces}
use Rattle.gta_theory.specs.Automata.{Automaton}
use Rattle.gta_core.specs.declared.part.Part.{Part}
use Rattle.gta_core.specs.Auto.{AutoView}
use Rattle.gta_product.specs.declared.growing.Growth.{Growth}
use Rattle.gta_product.specs.declared.pairing.Settled.{Settled}
use Rattle.gta_product.specs.Filling.{row_by_row}
use Rattle.gta_product.specs.Building.{Building, AreParts}

-- the part of a space with these pairs, of what it was joined for: its roots stand behind the old ones
pub record IsAssembled (g : Spaces) (s : ℕ) (pairs : List (ℕ × ℕ)) (growth : Growth) (old : List NodeRef) (part : Part) : Type 0 where
  pub children : slice_get g s ≡ Some part.children
  pub states : part.states ≡ length pairs
  pub initial : part.initial ≡ 0
  pub first : part.first ≡ length old
  pub rows : part.rows ≡ growth.rows.of
  pub columns : part.columns ≡ growth.columns.of
  pub width : part.width ≡ length growth.columns.ones
  pub cells : part.cells ≡ range_with_len 0 (length (row_by_row growth.cells.items))

-- the product is built of these pairs, and each space has a part for the pairs of its children
pub record IsSettled (g : Spaces) (AB : Automaton (ℕ × ℕ)) (a b : AutoView) (first now : Contents) (settled : Settled) : Type 0 where
  pub building : Building g AB first now settled.numbers.items
  pub many : length settled.parts ≡ length g
  pub parts : AreParts g AB a b settled.numbers.items now settled.roots settled.parts
