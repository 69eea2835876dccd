-- What a procedure declares before its body, and the numbers of its variables: and what is refused first, in the order parameters,
-- results, logic variables.
use Rattle.std.specs.Prelude.{ℕ, List, [], map, length}
use Rattle.pale_syntax.specs.declared.tree.declaration.Procedure.{Procedure}
use Rattle.store_core.specs.Tables.{TypeEntry, VarEntry}
use Rattle.pale_tables.specs.Faults.{Fault, ◌>>◌}
use Rattle.pale_sights.specs.declared.sights.Heading.{Heading}
use Rattle.pale_sights.specs.declared.sights.Frame.{Frame}
use Rattle.pale_sights.specs.declared.headings.Lists.{Lists}
use Rattle.pale_sights.specs.Variables.{variable_of, logic_of, variables_fault, logics_fault, with_names, with_logic_names}
use Rattle.pale_sights.specs.Sights.{numbers, first_result, first_local, first_logic, frame_of}

-- ---- the variables

abbrev pub locals_of : List TypeEntry → Procedure → List VarEntry
locals_of types p = map (variable_of types) p.locals

-- what is declared before the body, and how many locals the body declares
unfoldable pub heading_of : List TypeEntry → Procedure → Heading
heading_of types p = record {
  params = map (variable_of types) p.parameters;
  results = map (variable_of types) p.results;
  logics = map (logic_of types) p.logics;
  locals = length p.locals;
}

abbrev pub frame_in : List TypeEntry → Procedure → Frame
frame_in types p = frame_of (heading_of types p) (locals_of types p)

-- the names that are declared before the body, in order of the text
abbrev pub result_names : Procedure → List (List ℕ)
result_names p = with_names (with_names [] p.parameters) p.results

abbrev pub heading_names : Procedure → List (List ℕ)
heading_names p = with_logic_names (result_names p) p.logics

unfoldable pub heading_fault : List TypeEntry → Procedure → Fault
heading_fault types p =
    variables_fault types [] p.parameters
    >> variables_fault types (with_names [] p.parameters) p.results >> logics_fault types (result_names p) p.logics

-- ---- the numbers of the variables of each kind

abbrev pub lists_of : Heading → List VarEntry → Lists
lists_of h locals = record {
  params = numbers 0 h.params;
  results = numbers (first_result h) h.results;
  locals = numbers (first_local h) locals;
  logics = numbers (first_logic h) h.logics;
}
