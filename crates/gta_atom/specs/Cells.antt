-- The function of a pair of child states, and the parts of spaces.
use Rattle.std.specs.Prelude.{◌≡◌, ℕ, ◌*◌, ◌/◌, ◌%◌, Bool, min, List, length, Some, slice_get}
use Rattle.bdd_nodes.specs.declared.node_ref.NodeRef.{NodeRef}
use Rattle.bdd_nodes.specs.Shelf.{Contents, IsValid, state_of}
use Rattle.labels.specs.Labels.{Label, Function}
use Rattle.gta_theory.specs.Guides.{Spaces, left, right}
use Rattle.gta_core.specs.declared.build.SpacePart.{SpacePart}
use Rattle.gta_atom.specs.declared.plan.Plan.{Plan}
use Rattle.gta_atom.specs.declared.nodes.Cell.{Cell}
use Rattle.gta_atom.specs.States.{known_step, number_of, known_of}
use Rattle.gta_atom.specs.Plans.{kept_in}
use Rattle.gta_atom.specs.Automata.{counts_of, numbered_automaton}

-- the number of the state that the two bits give
abbrev pub cell_step : Cell → Bool → Bool → ℕ
cell_step cell first second = number_of cell.kept (known_step cell.form cell.left cell.right first second)

-- the function of the cell
abbrev pub cell_function : Cell → Function
cell_function cell = λ label. cell_step cell (label cell.first) (label cell.second)

-- the track that is asked first
abbrev pub lower_track : Cell → ℕ
lower_track cell = min cell.first cell.second

-- the cell of two states of child spaces
abbrev pub cell_of : Spaces → Plan → (Bool → ℕ → Bool) → ℕ → ℕ → ℕ → Cell
cell_of g plan is_child s i j = record {
  form = plan.form;
  first = plan.first;
  second = plan.second;
  kept = kept_in plan is_child s;
  left = known_of (kept_in plan is_child (left g s)) i;
  right = known_of (kept_in plan is_child (right g s)) j;
}

-- each root stands for the step of its pair of child states: in order of the left one, and then of the right one
pub record AreRoots (g : Spaces) (plan : Plan) (is_child : Bool → ℕ → Bool) (shelf : Contents) (s : ℕ) (roots : List NodeRef) :
    Type 0 where
  pub valid : (n : ℕ) (root : NodeRef) → slice_get roots n ≡ Some root → IsValid shelf root
  pub states : (n : ℕ) (root : NodeRef) (label : Label) → slice_get roots n ≡ Some root → state_of shelf root label
      ≡ (numbered_automaton g plan is_child).step s (n / counts_of plan is_child (right g s)) (n % counts_of plan is_child (right g s)) label

-- the part of a space of the numbered automaton
pub record IsPartIn (g : Spaces) (plan : Plan) (is_child : Bool → ℕ → Bool) (shelf : Contents) (s : ℕ) (part : SpacePart) :
    Type 0 where
  pub states : part.states ≡ counts_of plan is_child s
  pub initial : part.initial ≡ 0
  pub many : length part.roots ≡ counts_of plan is_child (left g s) * counts_of plan is_child (right g s)
  pub roots : AreRoots g plan is_child shelf s part.roots
