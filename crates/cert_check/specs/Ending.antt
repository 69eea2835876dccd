-- The first line of a section, and what has to hold at its end.
use Rattle.std.specs.Prelude.{◌≡◌, ℕ, ◌+◌, ◌-◌, ◌<◌, ◌≤◌, IsTrue, List, ◌∷◌, length, slice_get, Some, if◌then◌else◌}
use Rattle.cert_text.specs.declared.line.Way.{Way}
use Rattle.cert_text.specs.declared.line.Line.{Line}
use Rattle.cert_text.specs.declared.line.Line.TheVariants as line
use Rattle.cert_check.specs.declared.section.SectionStop.{SectionStop}
use Rattle.cert_check.specs.declared.section.SectionStop.TheVariants as stop
use Rattle.cert_check.specs.declared.board.Base.{Base}
use Rattle.cert_check.specs.declared.board.Part.{Part}
use Rattle.cert_check.specs.declared.board.Board.{Board}

-- the first line is that of a section with so many parts
pub record IsHead (parts : ℕ) (lines rest : List Line) : Type 0 where
  pub way : Way
  pub read : lines ≡ line.Section (record { way = way; parts = parts }) ∷ rest

-- the last part reaches no state that it accepts
pub record IsEmpty (board : Board) : Type 0 where
  pub part : Part
  pub base : Base
  pub at_part : slice_get board.parts (length board.parts - 1) ≡ Some part
  pub at_base : slice_get board.bases part.base ≡ Some base
  pub never : IsTrue (if part.is_negated then base.never_rejects else base.never_accepts)

-- a fault is that of one of so many lines, or of the one behind them
abbrev pub IsWithin : ℕ → SectionStop → Type 0
IsWithin lines (stop.Refused fault) = (0 < fault.line) × (fault.line ≤ lines + 1)
IsWithin lines stop.NoMemory = Unit {0}
