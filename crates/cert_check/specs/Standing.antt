-- What the checker knows after the steps on the first parts of a formula.
use Rattle.std.specs.Prelude.{◌≡◌, ◌↔◌, ℕ, ◌<◌, Bool, true, false, not, IsTrue, List, [], ◌∷◌, ◌++◌, length, take, slice_get}
use Rattle.std.specs.Prelude.{slice_index_or, Contains, Some}
use Rattle.gta_theory.specs.Guides.{Spaces}
use Rattle.ws2s_core.specs.declared.node.Node.{Node}
use Rattle.ws2s_core.specs.Nodes.{Extends, HasPartsBelow}
use Rattle.cert_text.specs.declared.line.NodeLine.{NodeLine}
use Rattle.cert_text.specs.declared.line.Line.{Line}
use Rattle.cert_theory.specs.Agreeing.{AgreeIn}
use Rattle.cert_theory.specs.Tables.{NamedPair, NamedSet}
use Rattle.cert_theory.specs.Sections.{Stage, IsStageOf}
use Rattle.cert_nodes.specs.declared.spots.Diagrams.{Diagrams}
use Rattle.cert_tables.specs.Automata.{signed, table_automaton, AreThere}
use Rattle.cert_parts.specs.Atoms.{atom_automaton}
use Rattle.cert_steps.specs.Steps.{StepLines, told_table}
use Rattle.cert_check.specs.declared.board.Base.{Base}
use Rattle.cert_check.specs.declared.board.Part.{Part}
use Rattle.cert_check.specs.declared.board.Board.{Board}
use Rattle.cert_check.specs.Reached.{Misses}
use Rattle.cert_check.specs.Reading.{ReadsConjunction, ReadsQuantified}
use Rattle.cert_tables.specs.declared.table.Table.{Table}
use Rattle.cert_check.specs.Told.{lines_of_steps, nodes_of_steps, Tells, IsInPlace}

-- ---- one part

-- more decision nodes stand behind the others
pub record IsGrown (old new : Diagrams) : Type 0 where
  pub atoms : Extends old.atoms new.atoms
  pub told : Extends old.told new.told

-- the table of an atom, of which some states accept and some don't
pub record IsAtomBase (g : Spaces) (d : Diagrams) (atom : Node) (base : Base) : Type 0 where
  pub agrees : AgreeIn g (table_automaton d base.table) (atom_automaton atom)
  pub there : AreThere d base.table
  pub accepts : base.never_accepts ≡ false
  pub rejects : base.never_rejects ≡ false

-- a part's automaton: its base's table, or the complement
pub record HasAutomaton (board : Board) (k : ℕ) (table : Table) (is_negated : Bool) : Type 0 where
  pub part : Part
  pub base : Base
  pub at_part : slice_get board.parts k ≡ Some part
  pub at_base : slice_get board.bases part.base ≡ Some base
  pub table_is : table ≡ base.table
  pub negated_is : is_negated ≡ part.is_negated

-- the table of a conjunction of two parts, read from the lines of its step but for the first
pub record IsConjunctionBase (g : Spaces) (old : List NodeLine) (new : Diagrams) (board : Board) (f h : ℕ) (lines rest : List Line) (base : Base) :
    Type 0 where
  pub a : Table
  pub a_negated : Bool
  pub b : Table
  pub b_negated : Bool
  pub of_f : HasAutomaton board f a a_negated
  pub of_h : HasAutomaton board h b b_negated
  pub reads : ReadsConjunction g old new a a_negated b b_negated lines base rest

-- the table of a quantified part, read from the lines of its step but for the first
pub record IsQuantifiedBase (g : Spaces) (old : List NodeLine) (new : Diagrams) (board : Board) (t f : ℕ) (lines rest : List Line) (base : Base) :
    Type 0 where
  pub a : Table
  pub a_negated : Bool
  pub of_f : HasAutomaton board f a a_negated
  pub reads : ReadsQuantified g old new a a_negated t lines base rest

-- one base comes behind the others, and a part that is its automaton
pub record AddsBase (Is : Base → Type 0) (old new : Board) : Type 0 where
  pub base : Base
  pub is : Is base
  pub bases : new.bases ≡ old.bases ++ base ∷ []
  pub parts : new.parts ≡ old.parts ++ (record { base = length old.bases; is_negated = false }) ∷ []

abbrev pub no_stage : Stage
no_stage = record {
  automaton = record { initial = λ s. 0; step = λ s p q label. 0; accepting = λ q. false };
  pairs = [];
  sets = [];
}

abbrev pub stage_at : List Stage → ℕ → Stage
stage_at stages k = slice_index_or stages k no_stage

-- what the base says of the states that the part's pairs or sets reach; a negation has its part's base
abbrev pub SaysReached : List Part → Node → Stage → Part → Base → Type 0
SaysReached parts (Node.And f h) stage part base =
    (IsTrue base.never_accepts ↔ ((pair : NamedPair) → Contains stage.pairs pair → Misses base.table true pair.space pair.state))
    × (IsTrue base.never_rejects ↔ ((pair : NamedPair) → Contains stage.pairs pair → Misses base.table false pair.space pair.state))
SaysReached parts (Node.Ex2 t f) stage part base =
    (IsTrue base.never_accepts ↔ ((set : NamedSet) → Contains stage.sets set → Misses base.table true set.space set.state))
    × (IsTrue base.never_rejects ↔ ((set : NamedSet) → Contains stage.sets set → Misses base.table false set.space set.state))
SaysReached parts (Node.Not f) stage part base = slice_get parts f.0 ≡ Some (record { base = part.base; is_negated = not part.is_negated })
SaysReached parts node stage part base = (base.never_accepts ≡ false) × (base.never_rejects ≡ false)

-- the targets of a step's table are there
abbrev pub IsToldThere : List NodeLine → Node → StepLines → Type 0
IsToldThere told (Node.And f h) step = AreThere (record { atoms = []; told = told }) (told_table step.automaton)
IsToldThere told (Node.Ex2 t f) step = AreThere (record { atoms = []; told = told }) (told_table step.automaton)
IsToldThere told node step = Unit {0}

-- the part with number j is known: its step and its stage, and a table that agrees with the stage's automaton
pub record StandsAt (g : Spaces) (nodes : List Node) (d : Diagrams) (board : Board) (steps : List StepLines) (stages : List Stage) (j : ℕ)
    (node : Node) : Type 0 where
  pub below : HasPartsBelow j node
  pub part : Part
  pub base : Base
  pub step : StepLines
  pub stage : Stage
  pub at_part : slice_get board.parts j ≡ Some part
  pub at_base : slice_get board.bases part.base ≡ Some base
  pub at_step : slice_get steps j ≡ Some step
  pub at_stage : slice_get stages j ≡ Some stage
  pub agrees : AgreeIn g (signed part.is_negated (table_automaton d base.table)) stage.automaton
  pub there : AreThere d base.table
  pub told_there : IsToldThere d.told node step
  pub is_stage : IsStageOf g (stage_at stages) node stage
  pub tells : Tells d.told node step stage
  pub in_place : IsInPlace g (stage_at stages) (nodes_of_steps (take j steps)) node step
  pub reached : SaysReached board.parts node stage part base

-- ---- the first parts

-- the first k parts are known, from the lines of the body up to the rest
pub record Stands (g : Spaces) (nodes : List Node) (d : Diagrams) (board : Board) (k : ℕ) (body rest : List Line) : Type 0 where
  pub steps : List StepLines
  pub stages : List Stage
  pub many_steps : length steps ≡ k
  pub many_stages : length stages ≡ k
  pub many_parts : length board.parts ≡ k
  pub told_is : d.told ≡ nodes_of_steps steps
  pub read : body ≡ lines_of_steps 0 (take k nodes) steps ++ rest
  pub each : (j : ℕ) (node : Node) → j < k → slice_get nodes j ≡ Some node → StandsAt g nodes d board steps stages j node
