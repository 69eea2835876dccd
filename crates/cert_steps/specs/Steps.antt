-- The lines of a section's steps, and the automaton that a step's lines tell.
use Rattle.std.specs.Prelude.{ℕ, ◌==◌, false, List, [], ◌∷◌, ◌++◌, map}
use Rattle.std.specs.List.{flat_map, list_any}
use Rattle.gta_theory.specs.Automata.{Automaton}
use Rattle.cert_text.specs.declared.line.Target.{Target}
use Rattle.cert_text.specs.declared.line.SpaceLine.{SpaceLine}
use Rattle.cert_text.specs.declared.line.ClassLine.{ClassLine}
use Rattle.cert_text.specs.declared.line.NodeLine.{NodeLine}
use Rattle.cert_text.specs.declared.line.RootLine.{RootLine}
use Rattle.cert_text.specs.declared.line.PairLine.{PairLine}
use Rattle.cert_text.specs.declared.line.StartLine.{StartLine}
use Rattle.cert_text.specs.declared.line.SettleLine.{SettleLine}
use Rattle.cert_text.specs.declared.line.SetLine.{SetLine}
use Rattle.cert_text.specs.declared.line.Line.{Line}
use Rattle.cert_text.specs.declared.line.Line.TheVariants as line
use Rattle.cert_tables.specs.declared.table.SpaceTable.{SpaceTable}
use Rattle.cert_tables.specs.declared.table.Table.{Table}
use Rattle.cert_tables.specs.Automata.{table_automaton}

-- a root, and the nodes that come new before it
pub record Rooted : Type 0 where
  pub nodes : List NodeLine
  pub root : RootLine

-- the lines of an automaton: the states, and the classes of the child spaces' states, a line for each space; for each space a
-- row of roots for each class on the left, a root for each class on the right; and the accepting states
pub record AutomatonLines : Type 0 where
  pub spaces : List SpaceLine
  pub lefts : List ClassLine
  pub rights : List ClassLine
  pub roots : List (List (List Rooted))
  pub accepting : List ℕ

-- the lines of a step, but for the first; a step on a conjunction has pairs, one on a quantified formula the settled states
-- and the sets
pub record StepLines : Type 0 where
  pub automaton : AutomatonLines
  pub pairs : List PairLine
  pub starts : List StartLine
  pub settles : List SettleLine
  pub sets : List SetLine

-- ---- the lines in their order

abbrev pub lines_of_root : Rooted → List Line
lines_of_root r = map line.Node r.nodes ++ (line.Root r.root ∷ [])

abbrev pub lines_of_row : List Rooted → List Line
lines_of_row row = flat_map lines_of_root row

abbrev pub lines_of_rows : List (List Rooted) → List Line
lines_of_rows rows = flat_map lines_of_row rows

abbrev pub automaton_lines : AutomatonLines → List Line
automaton_lines a =
    map line.Space a.spaces ++ (map line.Left a.lefts ++ (map line.Right a.rights ++ (flat_map lines_of_rows a.roots
    ++ (line.Accept a.accepting ∷ []))))

-- ---- the decision nodes, in order

abbrev pub nodes_of_row : List Rooted → List NodeLine
nodes_of_row row = flat_map (λ r. r.nodes) row

abbrev pub nodes_of_rows : List (List Rooted) → List NodeLine
nodes_of_rows rows = flat_map nodes_of_row rows

abbrev pub nodes_of_automaton : AutomatonLines → List NodeLine
nodes_of_automaton a = flat_map nodes_of_rows a.roots

abbrev pub nodes_of_step : StepLines → List NodeLine
nodes_of_step step = nodes_of_automaton step.automaton

-- ---- the automaton

abbrev pub target_of : Rooted → Target
target_of r = r.root.target

abbrev pub targets_of : List (List Rooted) → List (List Target)
targets_of rows = map (map target_of) rows

abbrev pub told_space : SpaceLine → ClassLine → ClassLine → List (List Rooted) → SpaceTable
told_space space l r rows = record {
  states = space.states;
  initial = space.initial;
  lefts = l.classes;
  rights = r.classes;
  roots = targets_of rows;
}

-- space by space
abbrev pub told_spaces : List SpaceLine → List ClassLine → List ClassLine → List (List (List Rooted)) → List SpaceTable
told_spaces (space ∷ spaces) (l ∷ lefts) (r ∷ rights) (rows ∷ roots) = told_space space l r rows ∷ told_spaces spaces lefts rights roots
told_spaces _ _ _ _ = []

-- its table, but for the accepting states
abbrev pub told_table : AutomatonLines → Table
told_table a = record { in_atoms = false; spaces = told_spaces a.spaces a.lefts a.rights a.roots; accepting = [] }

-- the automaton, by what the section's nodes lead to
abbrev pub told_automaton : List NodeLine → AutomatonLines → Automaton ℕ
told_automaton nodes a = record {
  initial = (table_automaton (record { atoms = []; told = nodes }) (told_table a)).initial;
  step = (table_automaton (record { atoms = []; told = nodes }) (told_table a)).step;
  accepting = λ q. list_any (λ r. r == q) a.accepting;
}
