-- What tables say of automata: a space or a target that isn't there counts as 0, and a state past the last one as the last.
use Rattle.std.specs.Prelude.{◌≡◌, ℕ, ◌-◌, min, Bool, true, false, not, List, ◌++◌, length, Option, Some, None, slice_get, unwrap_or}
use Rattle.std.specs.Prelude.{if◌then◌else◌}
use Rattle.gta_theory.specs.Automata.{Automaton}
use Rattle.cert_text.specs.declared.line.NodeLine.{NodeLine}
use Rattle.cert_text.specs.declared.line.Target.{Target}
use Rattle.cert_text.specs.declared.line.Target.TheVariants as target
use Rattle.cert_nodes.specs.declared.spots.Spot.{Spot}
use Rattle.cert_nodes.specs.declared.spots.Diagrams.{Diagrams}
use Rattle.cert_nodes.specs.Nodes.{IsThere}
use Rattle.cert_nodes.specs.Spots.{state_at}
use Rattle.cert_tables.specs.declared.table.SpaceTable.{SpaceTable}
use Rattle.cert_tables.specs.declared.table.Table.{Table}

abbrev pub space_in : Table → ℕ → Option SpaceTable
space_in table s = slice_get table.spaces s

abbrev pub initial_by : Option SpaceTable → ℕ
initial_by None = 0
initial_by (Some space) = space.initial

abbrev pub initial_in : Table → ℕ → ℕ
initial_in table s = initial_by (space_in table s)

-- the class of a state; one past the end has the last one's
abbrev pub class_at : List ℕ → ℕ → ℕ
class_at classes q = unwrap_or (slice_get classes (min q (length classes - 1))) 0

-- the class of a state of the right child space, or of the left one
abbrev pub class_by : Option SpaceTable → Bool → ℕ → ℕ
class_by None is_right q = 0
class_by (Some space) is_right q = if is_right then class_at space.rights q else class_at space.lefts q

abbrev pub class_in : Table → Bool → ℕ → ℕ → ℕ
class_in table is_right s q = class_by (space_in table s) is_right q

-- where two classes lead to
abbrev pub row_at : Option (List Target) → ℕ → Target
row_at None d = target.State 0
row_at (Some row) d = unwrap_or (slice_get row d) (target.State 0)

abbrev pub cell_by : Option SpaceTable → ℕ → ℕ → Target
cell_by None c d = target.State 0
cell_by (Some space) c d = row_at (slice_get space.roots c) d

abbrev pub spot_in : Table → ℕ → ℕ → ℕ → Spot
spot_in table s c d = record { in_atoms = table.in_atoms; target = cell_by (space_in table s) c d; fixed = None }

abbrev pub accepts_in : Table → ℕ → Bool
accepts_in table q = unwrap_or (slice_get table.accepting q) false

-- the automaton
abbrev pub table_automaton : Diagrams → Table → Automaton ℕ
table_automaton d table = record {
  initial = initial_in table;
  step = λ s p q label. state_at d 0 label (spot_in table s (class_in table false s p) (class_in table true s q));
  accepting = accepts_in table;
}

-- the automaton, or its complement
abbrev pub signed : Bool → Automaton ℕ → Automaton ℕ
signed is_negated A = record {
  initial = A.initial;
  step = A.step;
  accepting = λ q. if is_negated then not (A.accepting q) else A.accepting q;
}

abbrev pub accepts_signed : Table → Bool → ℕ → Bool
accepts_signed table is_negated q = if is_negated then not (accepts_in table q) else accepts_in table q

-- ---- nodes that come

-- each target of the table is a state, or one of the nodes
pub record AreThere (d : Diagrams) (table : Table) : Type 0 where
  pub there : (s c k : ℕ) (space : SpaceTable) (row : List Target) (t : Target) → slice_get table.spaces s ≡ Some space →
      slice_get space.roots c ≡ Some row → slice_get row k ≡ Some t → IsThere (if table.in_atoms then d.atoms else d.told) t

-- with more nodes of the section behind the others
abbrev pub told_more : Diagrams → List NodeLine → Diagrams
told_more d more = record { atoms = d.atoms; told = d.told ++ more }
