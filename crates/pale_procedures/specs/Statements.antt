-- Statements: a rule for what each is typed as, and one for its faults, parts in the order of the text. (Møller and Schwartzbach,
-- PLDI 2001.)
use Rattle.std.specs.Prelude.{false, List, [], Option, None, map, unwrap_or}
use Rattle.std.specs.Option.{option_map_or}
use Rattle.pale_syntax.specs.declared.tree.statement.Call.{Call}
use Rattle.pale_syntax.specs.declared.tree.statement.Statement.{Statement}
use Rattle.pale_syntax.specs.declared.tree.statement.Statement.TheOpen.{Statement-F}
use Rattle.pale_syntax.specs.declared.tree.statement.Statement.TheFolds.{fold-Statement}
use Rattle.store_core.specs.Tables.{TypeEntry}
use Rattle.store_logic.specs.declared.act.Act.TheVariants as act
use Rattle.store_logic.specs.declared.assertion.Assertion.{Assertion}
use Rattle.pale_tables.specs.Faults.{Fault, ◌>>◌, first_of}
use Rattle.pale_terms.specs.Visibles.{Entry}
use Rattle.pale_acts.specs.Conditions.{condition_fault, typed_condition}
use Rattle.pale_acts.specs.Assignments.{assignment_fault, assignment_of, free_fault, free_of}
use Rattle.pale_vocabulary.specs.Predicates.{bracketed_fault}
use Rattle.pale_calls.specs.declared.calls.CallHead.{CallHead}
use Rattle.pale_calls.specs.Calls.{call_fault, call_of, touched, allowed_each}
use Rattle.pale_typed.specs.declared.typed.CallParts.{CallParts}
use Rattle.pale_typed.specs.declared.typed.Stmt.{Stmt}
use Rattle.pale_typed.specs.declared.typed.Stmt.TheVariants as stmt
use Rattle.pale_procedures.specs.declared.basis.Basis.{Basis}
use Rattle.pale_sights.specs.declared.sights.Frame.{Frame}
use Rattle.pale_procedures.specs.Stated.{stated, stated_or_true, stated_fault}

-- the types of the program
abbrev pub types_of : Basis → List TypeEntry
types_of basis = basis.declared.vocabulary.types

-- ---- calls

-- a `keep` may name all variables but the results and the data and pointer variables among the arguments
abbrev pub keep_sight : Frame → Call → List Entry
keep_sight frame call = allowed_each false frame.stated (touched frame.vars call)

abbrev pub with_keep : CallHead → Assertion → CallParts
with_keep head keep = record { callee = head.callee; results = head.results; args = head.args; logics = head.logics; keep = keep }

unfoldable pub parts_of : Basis → Frame → Call → CallParts
parts_of basis frame call =
    with_keep (call_of basis.procedures frame.vars call) (stated_or_true basis.declared (keep_sight frame call) call.keep)

-- all but the `keep`, and then the `keep`
unfoldable pub parts_fault : Basis → Frame → Call → Fault
parts_fault basis frame call = call_fault basis.procedures frame.vars call >> stated_fault basis.declared (keep_sight frame call) call.keep

-- ---- all forms

-- what is left out is empty
abbrev pub else_of : Option (List Stmt) → List Stmt
else_of block = unwrap_or block []

abbrev pub typing_rules : Basis → Frame → Statement-F Stmt → Stmt
typing_rules basis frame (Statement-F.Skip place) = stmt.Skip
typing_rules basis frame (Statement-F.If place c first other) = stmt.If place.line (typed_condition (types_of basis) frame.code c) first (else_of other)
typing_rules basis frame (Statement-F.While place c invariant body) =
    stmt.While place (typed_condition (types_of basis) frame.code c) (stated basis.declared frame.stated invariant) body
typing_rules basis frame (Statement-F.Split place b) = stmt.Split place (stated basis.declared frame.stated b)
typing_rules basis frame (Statement-F.Assert place b) = stmt.Do place.line (act.Assert (stated basis.declared frame.stated b))
typing_rules basis frame (Statement-F.Free place x) = stmt.Do place.line (free_of frame.code x)
typing_rules basis frame (Statement-F.Call call) = stmt.Call call.place (parts_of basis frame call)
typing_rules basis frame (Statement-F.Assign p equals v) = stmt.Do p.base.place.line (assignment_of (types_of basis) frame.code p v)

-- the statement with its names looked up and predicates put in
unfoldable pub typed_statement : Basis → Frame → Statement → Stmt
typed_statement basis frame = fold-Statement Stmt (typing_rules basis frame)

abbrev pub typed_block : Basis → Frame → List Statement → List Stmt
typed_block basis frame block = map (typed_statement basis frame) block

abbrev pub block_rule : List Fault → Fault
block_rule block = first_of (λ next. next) block

abbrev pub else_rule : Option (List Fault) → Fault
else_rule block = option_map_or block_rule block None

abbrev pub fault_rules : Basis → Frame → Statement-F Fault → Fault
fault_rules basis frame (Statement-F.Skip place) = None
fault_rules basis frame (Statement-F.If place c first other) = condition_fault (types_of basis) frame.code c >> block_rule first >> else_rule other
fault_rules basis frame (Statement-F.While place c invariant body) =
    condition_fault (types_of basis) frame.code c >> bracketed_fault basis.declared frame.stated invariant >> block_rule body
fault_rules basis frame (Statement-F.Split place b) = bracketed_fault basis.declared frame.stated b
fault_rules basis frame (Statement-F.Assert place b) = bracketed_fault basis.declared frame.stated b
fault_rules basis frame (Statement-F.Free place x) = free_fault frame.code x
fault_rules basis frame (Statement-F.Call call) = parts_fault basis frame call
fault_rules basis frame (Statement-F.Assign p equals v) = assignment_fault (types_of basis) frame.code p v

-- the first fault of a statement
unfoldable pub statement_fault : Basis → Frame → Statement → Fault
statement_fault basis frame = fold-Statement Fault (fault_rules basis frame)

abbrev pub block_fault : Basis → Frame → List Statement → Fault
block_fault basis frame block = first_of (statement_fault basis frame) block
