-- Rows and columns of numbers: what a child state has over the states beside it.
use Rattle.std.specs.Prelude.{◌≡◌, ℕ, List, map, slice_index}
use Rattle.bdd_nodes.specs.declared.node_ref.NodeRef.{NodeRef}
use Rattle.gta_reach.specs.declared.form.FormSpace.{FormSpace}
use Rattle.gta_reach.specs.declared.sides.Side.{Side}
use Rattle.gta_reach.specs.Sides.{kinds_in, cell_at}
use Rattle.gta_classes.specs.Chosen.{IsAmong}
use Rattle.gta_refine.specs.Numbered.{number_at}

-- the numbers of the roots of a state with those beside it
abbrev pub row_of : FormSpace → Side → List NodeRef → List ℕ → ℕ → List NodeRef
row_of space side numbers beside own = map (λ other. number_at numbers (cell_at space side own other)) beside

-- the number that the class of a state has
abbrev pub id_of : FormSpace → Side → List ℕ → ℕ → ℕ
id_of space side ids own = slice_index ids (slice_index (kinds_in space side) own)

-- the classes of the states have equal numbers exactly where the states have equal rows
pub record AreIds (space : FormSpace) (side : Side) (numbers : List NodeRef) (own beside ids : List ℕ) : Type 0 where
  pub same : (p q : ℕ) → IsAmong own p → IsAmong own q → id_of space side ids p ≡ id_of space side ids q →
      row_of space side numbers beside p ≡ row_of space side numbers beside q
  pub apart : (p q : ℕ) → IsAmong own p → IsAmong own q →
      row_of space side numbers beside p ≡ row_of space side numbers beside q → id_of space side ids p ≡ id_of space side ids q
