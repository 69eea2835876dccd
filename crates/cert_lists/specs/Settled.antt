-- Settled states read from lines.
use Rattle.std.specs.Prelude.{◌≡◌, ℕ, List, ◌++◌, map}
use Rattle.gta_theory.specs.Guides.{Spaces}
use Rattle.gta_theory.specs.Automata.{Automaton}
use Rattle.cert_text.specs.declared.line.StartLine.{StartLine}
use Rattle.cert_text.specs.declared.line.SettleLine.{SettleLine}
use Rattle.cert_text.specs.declared.line.Line.{Line}
use Rattle.cert_text.specs.declared.line.Line.TheVariants as line
use Rattle.cert_theory.specs.Tables.{PlacedState}
use Rattle.cert_settled.specs.Settled.{told_states, AreSettling}

-- the lines tell the states, and what follows them
pub record ReadsSettled (g : Spaces) (A : Automaton ℕ) (t : ℕ) (lines : List Line) (states : List PlacedState) (rest : List Line) : Type 0 where
  pub starts : List StartLine
  pub settles : List SettleLine
  pub read : lines ≡ map line.Start starts ++ (map line.Settle settles ++ rest)
  pub fits : AreSettling g A t starts settles
  pub states_are : states ≡ told_states starts settles
