-- What targets in decision nodes lead to, and the rows of an atom's table.
use Rattle.std.specs.Prelude.{◌≡◌, ℕ, ◌<◌, List, length, slice_get, Some}
use Rattle.labels.specs.Labels.{Label}
use Rattle.ws2s_core.specs.declared.node.Node.{Node}
use Rattle.cert_text.specs.declared.line.NodeLine.{NodeLine}
use Rattle.cert_text.specs.declared.line.Target.{Target}
use Rattle.cert_nodes.specs.Nodes.{state_on, functions_of, IsThere}
use Rattle.cert_tables.specs.declared.table.SpaceTable.{SpaceTable}
use Rattle.cert_parts.specs.Atoms.{atom_function}

-- the target is there, and leads to these states
pub record LeadsTo (nodes : List NodeLine) (t : Target) (f : Label → ℕ) : Type 0 where
  pub there : IsThere nodes t
  pub leads : (label : Label) → state_on (functions_of nodes) t label ≡ f label

-- the target at a place of a row leads where the atom does from that state on the right
pub record IsCellOf (nodes : List NodeLine) (atom : Node) (p : ℕ) (row : List Target) (q : ℕ) : Type 0 where
  pub target : Target
  pub at : slice_get row q ≡ Some target
  pub leads : LeadsTo nodes target (atom_function atom p q)

-- a row has so many targets, each of which leads where the atom does
pub record AreCells (nodes : List NodeLine) (atom : Node) (p count : ℕ) (row : List Target) : Type 0 where
  pub many : length row ≡ count
  pub cell : (q : ℕ) → q < count → IsCellOf nodes atom p row q

pub record IsRowOf (nodes : List NodeLine) (atom : Node) (count : ℕ) (rows : List (List Target)) (p : ℕ) : Type 0 where
  pub row : List Target
  pub at : slice_get rows p ≡ Some row
  pub cells : AreCells nodes atom p count row

-- so many rows, each with as many targets
pub record AreFirstRows (nodes : List NodeLine) (atom : Node) (count many : ℕ) (rows : List (List Target)) : Type 0 where
  pub many_rows : length rows ≡ many
  pub row : (p : ℕ) → p < many → IsRowOf nodes atom count rows p

abbrev pub AreRows : List NodeLine → Node → ℕ → List (List Target) → Type 0
AreRows nodes atom count rows = AreFirstRows nodes atom count count rows

-- the numbers below a number, in order
pub record AreNumbered (count : ℕ) (numbers : List ℕ) : Type 0 where
  pub many : length numbers ≡ count
  pub number : (k : ℕ) → k < count → slice_get numbers k ≡ Some k

-- each state is a class of its own, and these are the rows
pub record IsSpaceOf (count : ℕ) (rows : List (List Target)) (space : SpaceTable) : Type 0 where
  pub many : space.states ≡ count
  pub initial : space.initial ≡ 0
  pub lefts : AreNumbered count space.lefts
  pub rights : AreNumbered count space.rights
  pub roots : space.roots ≡ rows

pub record AreSpacesOf (many count : ℕ) (rows : List (List Target)) (spaces : List SpaceTable) : Type 0 where
  pub all : length spaces ≡ many
  pub space : (s : ℕ) (space : SpaceTable) → slice_get spaces s ≡ Some space → IsSpaceOf count rows space
