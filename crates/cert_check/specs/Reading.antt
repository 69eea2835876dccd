-- What is read from the lines of a step.
use Rattle.std.specs.Prelude.{◌≡◌, ◌↔◌, ℕ, Bool, true, false, IsTrue, List, ◌++◌, map}
use Rattle.gta_theory.specs.Guides.{Spaces}
use Rattle.gta_theory.specs.Constructions.{Settled}
use Rattle.cert_text.specs.declared.line.NodeLine.{NodeLine}
use Rattle.cert_text.specs.declared.line.PairLine.{PairLine}
use Rattle.cert_text.specs.declared.line.SetLine.{SetLine}
use Rattle.cert_text.specs.declared.line.StartLine.{StartLine}
use Rattle.cert_text.specs.declared.line.SettleLine.{SettleLine}
use Rattle.cert_text.specs.declared.line.Line.{Line}
use Rattle.cert_text.specs.declared.line.Line.TheVariants as line
use Rattle.cert_theory.specs.Tables.{IsPairTable, IsSetTable}
use Rattle.cert_nodes.specs.declared.spots.Diagrams.{Diagrams}
use Rattle.cert_tables.specs.declared.table.Table.{Table}
use Rattle.cert_tables.specs.Automata.{signed, table_automaton}
use Rattle.cert_tables.specs.PairKeys.{named_pair}
use Rattle.cert_tables.specs.SetKeys.{named_set}
use Rattle.cert_settled.specs.Settled.{AreSettling}
use Rattle.cert_steps.specs.Reading.{ReadsAutomaton}
use Rattle.cert_lists.specs.States.{ArePairsOf, AreSetsOf}
use Rattle.cert_check.specs.declared.board.Base.{Base}
use Rattle.cert_check.specs.Reached.{NoPairSays, NoSetSays}

-- the table with what its pairs reach
pub record IsBaseOfPairs (table : Table) (pairs : List PairLine) (base : Base) : Type 0 where
  pub table_is : base.table ≡ table
  pub accepts : IsTrue base.never_accepts ↔ NoPairSays table true pairs
  pub rejects : IsTrue base.never_rejects ↔ NoPairSays table false pairs

-- the table with what its sets reach
pub record IsBaseOfSets (table : Table) (sets : List SetLine) (base : Base) : Type 0 where
  pub table_is : base.table ≡ table
  pub accepts : IsTrue base.never_accepts ↔ NoSetSays table true sets
  pub rejects : IsTrue base.never_rejects ↔ NoSetSays table false sets

-- the lines of a conjunction's step, but for the first
pub record ReadsConjunction (g : Spaces) (old : List NodeLine) (new : Diagrams) (a : Table) (a_negated : Bool) (b : Table) (b_negated : Bool)
    (lines : List Line) (base : Base) (rest : List Line) : Type 0 where
  pub table : Table
  pub pairs : List PairLine
  pub automaton : ReadsAutomaton g old new lines table (map line.Pair pairs ++ rest)
  pub fits : ArePairsOf a b table pairs
  pub leads : IsPairTable g (signed a_negated (table_automaton new a)) (signed b_negated (table_automaton new b)) (map named_pair pairs)
      (table_automaton new table)
  pub is_base : IsBaseOfPairs table pairs base

-- the lines of a quantified formula's step, but for the first
pub record ReadsQuantified (g : Spaces) (old : List NodeLine) (new : Diagrams) (a : Table) (a_negated : Bool) (track : ℕ) (lines : List Line)
    (base : Base) (rest : List Line) : Type 0 where
  pub table : Table
  pub starts : List StartLine
  pub settles : List SettleLine
  pub sets : List SetLine
  pub automaton : ReadsAutomaton g old new lines table (map line.Start starts ++ (map line.Settle settles ++ (map line.Set sets ++ rest)))
  pub settled : AreSettling g (table_automaton new a) track starts settles
  pub fits : AreSetsOf a table sets
  pub leads : IsSetTable g (signed a_negated (table_automaton new a)) track (Settled g (signed a_negated (table_automaton new a)) track)
      (map named_set sets) (table_automaton new table)
  pub is_base : IsBaseOfSets table sets base
