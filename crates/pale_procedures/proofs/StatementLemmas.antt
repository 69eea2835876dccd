-- Statements, form by form: their faults, and what they are typed as.
use Rattle.std.proofs.Common.{◌≡◌, List, [], ◌∷◌, map, Option, Some, None, refl, sym, ap, ◌∙◌, subst}
use Rattle.pale_text.specs.declared.place.Pos.{Pos}
use Rattle.pale_text.specs.declared.refusal.TextStop.{TextStop}
use Rattle.pale_syntax.specs.declared.tree.names.Name.{Name}
use Rattle.pale_syntax.specs.declared.tree.names.Path.{Path}
use Rattle.pale_syntax.specs.declared.tree.condition.Condition.{Condition}
use Rattle.pale_syntax.specs.declared.tree.assertion.Bracketed.{Bracketed}
use Rattle.pale_syntax.specs.declared.tree.statement.Call.{Call}
use Rattle.pale_syntax.specs.declared.tree.statement.Value.{Value}
use Rattle.pale_syntax.specs.declared.tree.statement.Statement.{Statement, roll-Statement}
use Rattle.pale_syntax.specs.declared.tree.statement.Statement.TheVariants as form
use Rattle.pale_syntax.specs.declared.tree.statement.Statement.TheOpen.{Statement-F}
use Rattle.pale_syntax.specs.declared.tree.statement.Statement.TheFolds.{map-Statement, fold-roll-Statement}
use Rattle.store_logic.specs.declared.act.Act.TheVariants as act
use Rattle.store_logic.specs.declared.cond.Cond.{Cond}
use Rattle.pale_tables.specs.Faults.{Fault, IsStop, ◌>>◌}
use Rattle.pale_tables.proofs.FaultLemmas.{stop-then, stop-after, none-then}
use Rattle.pale_acts.specs.Conditions.{condition_fault, typed_condition}
use Rattle.pale_acts.specs.Assignments.{assignment_fault, assignment_of, free_fault, free_of}
use Rattle.pale_vocabulary.specs.Predicates.{bracketed_fault}
use Rattle.pale_typed.specs.declared.typed.Stmt.{Stmt}
use Rattle.pale_typed.specs.declared.typed.Stmt.TheVariants as stmt
use Rattle.pale_procedures.specs.declared.basis.Basis.{Basis}
use Rattle.pale_sights.specs.declared.sights.Frame.{Frame}
use Rattle.pale_procedures.specs.Stated.{stated}
use Rattle.pale_sights.specs.Framing.{AreOfATable, IsFrame}
use Rattle.pale_procedures.specs.Statements.{types_of, parts_of, parts_fault, typing_rules, typed_statement, typed_block, block_rule}
use Rattle.pale_procedures.specs.Statements.{fault_rules, statement_fault, block_fault}

-- what assertions of a frame name are variables of its table
pub frame-variables : (frame : Frame) → IsFrame frame → AreOfATable frame.stated
frame-variables frame is = record { vars = frame.vars; each = is.stated }

module _ (basis : Basis) (frame : Frame) where
  pub fault_form : (s : Statement) (x : Statement-F Statement) → s ≡ roll-Statement x →
      statement_fault basis frame s ≡ fault_rules basis frame (map-Statement Statement Fault (statement_fault basis frame) x)
  unfolding statement_fault
  fault_form s x is = ap (statement_fault basis frame) is ∙ fold-roll-Statement Fault (fault_rules basis frame) x

  pub typed_form : (s : Statement) (x : Statement-F Statement) → s ≡ roll-Statement x →
      typed_statement basis frame s ≡ typing_rules basis frame (map-Statement Statement Stmt (typed_statement basis frame) x)
  unfolding typed_statement
  typed_form s x is = ap (typed_statement basis frame) is ∙ fold-roll-Statement Stmt (typing_rules basis frame) x

  -- the statements of a block
  each_fault : (block : List Statement) → block_rule (map (statement_fault basis frame) block) ≡ block_fault basis frame block
  each_fault [] = refl
  each_fault (s ∷ block) = ap (λ rest. statement_fault basis frame s >> rest) (each_fault block)

  -- the block of an `else`
  abbrev pub else_fault : Option (List Statement) → Fault
  else_fault None = None
  else_fault (Some block) = block_fault basis frame block

  abbrev pub typed_else : Option (List Statement) → List Stmt
  typed_else None = []
  typed_else (Some block) = typed_block basis frame block

  -- ---- each form

  pub fault-Skip : (place : Pos) → statement_fault basis frame (form.Skip place) ≡ None
  fault-Skip place = fault_form _ (Statement-F.Skip place) (sym (form.rolls-Skip place))

  pub typed-Skip : (place : Pos) → typed_statement basis frame (form.Skip place) ≡ stmt.Skip
  typed-Skip place = typed_form _ (Statement-F.Skip place) (sym (form.rolls-Skip place))

  pub fault-If : (place : Pos) (c : Condition) (first : List Statement) (other : Option (List Statement)) →
      statement_fault basis frame (form.If place c first other)
      ≡ (condition_fault (types_of basis) frame.code c >> block_fault basis frame first >> else_fault other)
  fault-If place c first None =
      fault_form _ (Statement-F.If place c first None) (sym (form.rolls-If place c first None))
      ∙ ap (λ block. condition_fault (types_of basis) frame.code c >> block >> None) (each_fault first)
  fault-If place c first (Some other) =
      fault_form _ (Statement-F.If place c first (Some other)) (sym (form.rolls-If place c first (Some other)))
      ∙ ap (λ block. condition_fault (types_of basis) frame.code c >> block >> block_rule (map (statement_fault basis frame) other)) (each_fault first)
      ∙ ap (λ block. condition_fault (types_of basis) frame.code c >> block_fault basis frame first >> block) (each_fault other)

  pub typed-If : (place : Pos) (c : Condition) (first : List Statement) (other : Option (List Statement)) →
      typed_statement basis frame (form.If place c first other)
      ≡ stmt.If place.line (typed_condition (types_of basis) frame.code c) (typed_block basis frame first) (typed_else other)
  typed-If place c first None = typed_form _ (Statement-F.If place c first None) (sym (form.rolls-If place c first None))
  typed-If place c first (Some other) = typed_form _ (Statement-F.If place c first (Some other)) (sym (form.rolls-If place c first (Some other)))

  pub fault-While : (place : Pos) (c : Condition) (invariant : Bracketed) (body : List Statement) →
      statement_fault basis frame (form.While place c invariant body)
      ≡ (condition_fault (types_of basis) frame.code c >> bracketed_fault basis.declared frame.stated invariant >> block_fault basis frame body)
  fault-While place c invariant body =
      fault_form _ (Statement-F.While place c invariant body) (sym (form.rolls-While place c invariant body))
      ∙ ap (λ block. condition_fault (types_of basis) frame.code c >> bracketed_fault basis.declared frame.stated invariant >> block) (each_fault body)

  pub typed-While : (place : Pos) (c : Condition) (invariant : Bracketed) (body : List Statement) →
      typed_statement basis frame (form.While place c invariant body)
      ≡ stmt.While place (typed_condition (types_of basis) frame.code c) (stated basis.declared frame.stated invariant) (typed_block basis frame body)
  typed-While place c invariant body = typed_form _ (Statement-F.While place c invariant body) (sym (form.rolls-While place c invariant body))

  pub fault-Split : (place : Pos) (b : Bracketed) →
      statement_fault basis frame (form.Split place b) ≡ bracketed_fault basis.declared frame.stated b
  fault-Split place b = fault_form _ (Statement-F.Split place b) (sym (form.rolls-Split place b))

  pub typed-Split : (place : Pos) (b : Bracketed) →
      typed_statement basis frame (form.Split place b) ≡ stmt.Split place (stated basis.declared frame.stated b)
  typed-Split place b = typed_form _ (Statement-F.Split place b) (sym (form.rolls-Split place b))

  pub fault-Assert : (place : Pos) (b : Bracketed) →
      statement_fault basis frame (form.Assert place b) ≡ bracketed_fault basis.declared frame.stated b
  fault-Assert place b = fault_form _ (Statement-F.Assert place b) (sym (form.rolls-Assert place b))

  pub typed-Assert : (place : Pos) (b : Bracketed) →
      typed_statement basis frame (form.Assert place b) ≡ stmt.Do place.line (act.Assert (stated basis.declared frame.stated b))
  typed-Assert place b = typed_form _ (Statement-F.Assert place b) (sym (form.rolls-Assert place b))

  pub fault-Free : (place : Pos) (x : Name) → statement_fault basis frame (form.Free place x) ≡ free_fault frame.code x
  fault-Free place x = fault_form _ (Statement-F.Free place x) (sym (form.rolls-Free place x))

  pub typed-Free : (place : Pos) (x : Name) → typed_statement basis frame (form.Free place x) ≡ stmt.Do place.line (free_of frame.code x)
  typed-Free place x = typed_form _ (Statement-F.Free place x) (sym (form.rolls-Free place x))

  pub fault-Call : (call : Call) → statement_fault basis frame (form.Call call) ≡ parts_fault basis frame call
  fault-Call call = fault_form _ (Statement-F.Call call) (sym (form.rolls-Call call))

  pub typed-Call : (call : Call) → typed_statement basis frame (form.Call call) ≡ stmt.Call call.place (parts_of basis frame call)
  typed-Call call = typed_form _ (Statement-F.Call call) (sym (form.rolls-Call call))

  pub fault-Assign : (p : Path) (equals : Pos) (v : Value) →
      statement_fault basis frame (form.Assign p equals v) ≡ assignment_fault (types_of basis) frame.code p v
  fault-Assign p equals v = fault_form _ (Statement-F.Assign p equals v) (sym (form.rolls-Assign p equals v))

  pub typed-Assign : (p : Path) (equals : Pos) (v : Value) →
      typed_statement basis frame (form.Assign p equals v) ≡ stmt.Do p.base.place.line (assignment_of (types_of basis) frame.code p v)
  typed-Assign p equals v = typed_form _ (Statement-F.Assign p equals v) (sym (form.rolls-Assign p equals v))

-- ---- an `if` that is read part by part

module _ (basis : Basis) (frame : Frame) (s : Statement) (place : Pos) (c : Condition) (first slice : List Statement) (other : Option (List Statement))
    (is : s ≡ form.If place c first other) (lent : slice ≡ first) (none : condition_fault (types_of basis) frame.code c ≡ None) where
  if-fault : statement_fault basis frame s
      ≡ (condition_fault (types_of basis) frame.code c >> block_fault basis frame slice >> else_fault basis frame other)
  if-fault =
      ap (statement_fault basis frame) is ∙ fault-If basis frame place c first other
      ∙ ap (λ (block : List Statement). condition_fault (types_of basis) frame.code c >> block_fault basis frame block >> else_fault basis frame other)
      (sym lent)

  -- a fault of the first block
  pub if-first-stop : (e : TextStop) → IsStop (block_fault basis frame slice) e → IsStop (statement_fault basis frame s) e
  if-first-stop e stop = subst (λ (fault : Fault). IsStop fault e) (sym if-fault) (stop-after _ _ e none (stop-then _ _ e stop))

  module _ (fine : block_fault basis frame slice ≡ None) (after : Frame) (kept : after ≡ frame) where
    -- a fault of the other block
    pub if-else-stop : (e : TextStop) → IsStop (else_fault basis after other) e → IsStop (statement_fault basis frame s) e
    if-else-stop e stop =
        subst (λ (fault : Fault). IsStop fault e) (sym if-fault)
        (stop-after _ _ e none (stop-after _ _ e fine (subst (λ (f : Frame). IsStop (else_fault basis f other) e) kept stop)))

    -- no fault
    pub if-none : else_fault basis after other ≡ None → statement_fault basis frame s ≡ None
    if-none last = if-fault ∙ none-then _ _ none (none-then _ _ fine (ap (λ (f : Frame). else_fault basis f other) (sym kept) ∙ last))

    -- what it is typed as
    pub if-typed : (condition : Cond) (one two : List Stmt) → condition ≡ typed_condition (types_of basis) frame.code c →
        one ≡ typed_block basis frame slice → two ≡ typed_else basis after other → stmt.If place.line condition one two ≡ typed_statement basis frame s
    if-typed condition one two tested first_is else_is =
        ap (λ (x : Cond). stmt.If place.line x one two) tested
        ∙ ap (λ (x : List Stmt). stmt.If place.line (typed_condition (types_of basis) frame.code c) x two) (first_is ∙ ap (typed_block basis frame) lent)
        ∙ ap (stmt.If place.line (typed_condition (types_of basis) frame.code c) (typed_block basis frame first))
        (else_is ∙ ap (λ (f : Frame). typed_else basis f other) kept)
        ∙ sym (ap (typed_statement basis frame) is ∙ typed-If basis frame place c first other)

pub ruleset frames = (frame-variables)

-- each form
pub ruleset statement_forms = (
  frame-variables,
  fault-Skip,
  typed-Skip,
  fault-If,
  typed-If,
  fault-While,
  typed-While,
  fault-Split,
  typed-Split,
  fault-Assert,
  typed-Assert,
  fault-Free,
  typed-Free,
  fault-Call,
  typed-Call,
  fault-Assign,
  typed-Assign,
)
