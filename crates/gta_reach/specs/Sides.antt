-- The left and the right child: their spaces, the classes of their states, and the roots that they have beside one another.
-- (Thatcher and Wright 1968, for two children.)
use Rattle.std.specs.Prelude.{ℕ, List}
use Rattle.labels.specs.Labels.{Label}
use Rattle.gta_theory.specs.Guides.{Spaces, left, right}
use Rattle.gta_theory.specs.Automata.{Automaton}
use Rattle.gta_reach.specs.declared.form.FormSpace.{FormSpace}
use Rattle.gta_reach.specs.declared.sides.Side.{Side}
use Rattle.gta_reach.specs.declared.sides.Side.TheVariants.{Left, Right}
use Rattle.gta_reach.specs.Form.{cell_in}
use Rattle.gta_reach.specs.Reached.{HasRoot}

-- the space of a child, as the form has it
abbrev pub child_of : FormSpace → Side → ℕ
child_of space Left = space.children.0
child_of space Right = space.children.1

-- the space of a child
abbrev pub child_at : Spaces → Side → ℕ → ℕ
child_at g Left s = left g s
child_at g Right s = right g s

-- the other child
abbrev pub opposite : Side → Side
opposite Left = Right
opposite Right = Left

-- a step from a state of a child and one of the other child
abbrev pub step_by : Automaton ℕ → ℕ → Side → ℕ → ℕ → Label → ℕ
step_by A s Left own beside label = A.step s own beside label
step_by A s Right own beside label = A.step s beside own label

-- the classes of the states of a child
abbrev pub kinds_in : FormSpace → Side → List ℕ
kinds_in space Left = space.rows
kinds_in space Right = space.columns

-- which root a state of a child has with one of the other child
abbrev pub cell_at : FormSpace → Side → ℕ → ℕ → ℕ
cell_at space Left own beside = cell_in space own beside
cell_at space Right own beside = cell_in space beside own

-- the two have a root
abbrev pub HasRootAt : FormSpace → Side → ℕ → ℕ → Type 0
HasRootAt space Left own beside = HasRoot space own beside
HasRootAt space Right own beside = HasRoot space beside own
