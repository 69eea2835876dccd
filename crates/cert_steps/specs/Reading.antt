-- What is read from lines: those of a root, of a row, of rows and of all spaces' rows, and what follows them.
use Rattle.std.specs.Prelude.{◌≡◌, ℕ, ◌==◌, Bool, false, List, [], ◌∷◌, ◌++◌, map, length, slice_get, unwrap_or, Some}
use Rattle.cert_text.specs.declared.line.Line.{Line}
use Rattle.cert_text.specs.declared.line.Target.{Target}
use Rattle.cert_text.specs.declared.line.NodeLine.{NodeLine}
use Rattle.cert_text.specs.declared.line.SpaceLine.{SpaceLine}
use Rattle.cert_text.specs.declared.line.ClassLine.{ClassLine}
use Rattle.cert_tables.specs.declared.table.SpaceTable.{SpaceTable}
use Rattle.cert_steps.specs.declared.roots.RootPlace.{RootPlace}
use Rattle.cert_steps.specs.Steps.{Rooted, lines_of_root, lines_of_row, lines_of_rows, nodes_of_row, nodes_of_rows, target_of, targets_of}
use Rattle.cert_steps.specs.Steps.{told_space, told_spaces, AutomatonLines, automaton_lines, nodes_of_automaton, told_table, told_automaton}
use Rattle.cert_steps.specs.Places.{IsRootAt, AreRootsFrom, AreRowsFrom, AreRows, AreSpacesRows, class_count, AreSpaceLines, AreClassLines, states_in}
use Rattle.cert_steps.specs.Places.{AreAccepting, AreInPlace}
use Rattle.std.specs.List.{flat_map, list_any}
use Rattle.gta_theory.specs.Guides.{Spaces, left, right}
use Rattle.cert_text.specs.declared.line.Line.TheVariants as line
use Rattle.cert_nodes.specs.declared.spots.Diagrams.{Diagrams}
use Rattle.cert_tables.specs.declared.table.Table.{Table}
use Rattle.cert_tables.specs.Automata.{table_automaton, AreThere}

-- a root, with its nodes new
pub record ReadsRoot (old new : List NodeLine) (place : RootPlace) (lines : List Line) (target : Target) (rest : List Line) : Type 0 where
  pub rooted : Rooted
  pub read : lines ≡ lines_of_root rooted ++ rest
  pub drawn : new ≡ old ++ rooted.nodes
  pub fits : IsRootAt new place.states place.space place.left place.right rooted.root
  pub target_is : target ≡ target_of rooted

-- the first roots of a row
pub record ReadsRoots (old new : List NodeLine) (states s c d : ℕ) (lines : List Line) (targets : List Target) (rest : List Line) : Type 0 where
  pub row : List Rooted
  pub read : lines ≡ lines_of_row row ++ rest
  pub drawn : new ≡ old ++ nodes_of_row row
  pub fits : AreRootsFrom old states s c 0 row
  pub many : length row ≡ d
  pub targets_are : targets ≡ map target_of row

-- the first rows of a space, each with so many roots
pub record ReadsRows (old new : List NodeLine) (states s c count : ℕ) (lines : List Line) (targets : List (List Target)) (rest : List Line) :
    Type 0 where
  pub rows : List (List Rooted)
  pub read : lines ≡ lines_of_rows rows ++ rest
  pub drawn : new ≡ old ++ nodes_of_rows rows
  pub fits : AreRowsFrom old states s 0 count rows
  pub many : length rows ≡ c
  pub targets_are : targets ≡ targets_of rows

-- all rows of a space, and its table; the place of its roots is that which its line has
pub record ReadsSpace (old new : List NodeLine) (spaces : List SpaceLine) (lefts rights : List ClassLine) (s : ℕ) (lines : List Line)
    (table : SpaceTable) (rest : List Line) : Type 0 where
  pub rows : List (List Rooted)
  pub space : SpaceLine
  pub left : ClassLine
  pub right : ClassLine
  pub read : lines ≡ lines_of_rows rows ++ rest
  pub drawn : new ≡ old ++ nodes_of_rows rows
  pub at_space : slice_get spaces s ≡ Some space
  pub at_left : slice_get lefts s ≡ Some left
  pub at_right : slice_get rights s ≡ Some right
  pub fits : AreRows old space.states space.space (class_count left.classes) (class_count right.classes) rows
  pub table_is : table ≡ told_space space left right rows

-- the rows of the first spaces
pub record ReadsSpaces (old new : List NodeLine) (spaces : List SpaceLine) (lefts rights : List ClassLine) (s : ℕ) (lines : List Line)
    (tables : List SpaceTable) (rest : List Line) : Type 0 where
  pub roots : List (List (List Rooted))
  pub read : lines ≡ flat_map lines_of_rows roots ++ rest
  pub drawn : new ≡ old ++ flat_map nodes_of_rows roots
  pub fits : AreSpacesRows old spaces lefts rights roots
  pub many : length roots ≡ s
  pub tables_are : tables ≡ told_spaces spaces lefts rights roots

-- the accepting states, as answers for each state
pub record ReadsAccepting (states : ℕ) (lines : List Line) (answers : List Bool) (rest : List Line) : Type 0 where
  pub accepting : List ℕ
  pub read : lines ≡ line.Accept accepting ∷ rest
  pub fits : AreAccepting states accepting
  pub answers_are : (q : ℕ) → unwrap_or (slice_get answers q) false ≡ list_any (λ r. r == q) accepting

-- an automaton, with its nodes new
pub record ReadsAutomaton (g : Spaces) (old : List NodeLine) (new : Diagrams) (lines : List Line) (table : Table) (rest : List Line) : Type 0 where
  pub automaton : AutomatonLines
  pub read : lines ≡ automaton_lines automaton ++ rest
  pub drawn : new.told ≡ old ++ nodes_of_automaton automaton
  pub fits : AreInPlace g old automaton
  pub told : table_automaton new table ≡ told_automaton new.told automaton
  pub there : AreThere new table
  pub told_there : AreThere (record { atoms = []; told = new.told }) (told_table automaton)

-- the states and the classes of all spaces
pub record ReadsHeads (g : Spaces) (lines : List Line) (spaces : List SpaceLine) (lefts rights : List ClassLine) (rest : List Line) : Type 0 where
  pub read : lines ≡ map line.Space spaces ++ (map line.Left lefts ++ (map line.Right rights ++ rest))
  pub spaces_fit : AreSpaceLines (length g) spaces
  pub lefts_fit : AreClassLines spaces (left g) (length g) lefts
  pub rights_fit : AreClassLines spaces (right g) (length g) rights

-- the states, the classes and the rows of all spaces
pub record ReadsTables (g : Spaces) (old new : List NodeLine) (lines : List Line) (tables : List SpaceTable) (states : ℕ) (rest : List Line) :
    Type 0 where
  pub spaces : List SpaceLine
  pub lefts : List ClassLine
  pub rights : List ClassLine
  pub behind : List Line
  pub heads : ReadsHeads g lines spaces lefts rights behind
  pub roots : ReadsSpaces old new spaces lefts rights (length g) behind tables rest
  pub states_are : states ≡ states_in spaces 0
