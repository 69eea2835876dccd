-- The lists of settled classes: of each space one of rows and one of columns.
use Rattle.std.specs.Prelude.{◌≡◌, ◌<◌, length, vec_len}
use Rattle.gta_reach.specs.declared.form.Form.{Form}
use Rattle.gta_witness.specs.declared.goal.Goal.{Goal}
use Rattle.gta_witness.specs.declared.goal.Goal.TheVariants.{State, Node, Row, Column}
use Rattle.gta_witness.specs.declared.expand.Lines.{Lines}

-- each space has its two lists
pub record AreLines (form : Form) (lines : Lines) : Type 0 where
  pub rows : vec_len lines.rows ≡ length form.spaces
  pub columns : vec_len lines.columns ≡ length form.spaces

-- if the goal is a class, its space has a list
abbrev pub HasLine : Lines → Goal → Type 0
HasLine lines (State s q) = Unit {0}
HasLine lines (Node s i) = Unit {0}
HasLine lines (Row s class) = s < vec_len lines.rows
HasLine lines (Column s class) = s < vec_len lines.columns
