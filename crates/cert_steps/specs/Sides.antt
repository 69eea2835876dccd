-- The two sides of a step's classes.
use Rattle.std.specs.Prelude.{ℕ, Bool, true, false, if◌then◌else◌}
use Rattle.gta_theory.specs.Guides.{Spaces, left, right}
use Rattle.cert_text.specs.declared.line.ClassLine.{ClassLine}
use Rattle.cert_text.specs.declared.line.Line.{Line}
use Rattle.cert_text.specs.declared.line.Line.TheVariants as line

-- the line of classes of the right child space, or of the left one
abbrev pub side_line : Bool → ClassLine → Line
side_line false l = line.Left l
side_line true l = line.Right l

abbrev pub child_of : Spaces → Bool → ℕ → ℕ
child_of g is_right s = if is_right then right g s else left g s
