use Rattle.std.proofs.Common.{List, ap, ap₂, sym, ◌∙◌}
use Rattle.pale_typed.specs.declared.typed.Stmt.{Stmt, roll-Stmt}
use Rattle.pale_typed.specs.declared.typed.Stmt.TheVariants as stmt
use Rattle.pale_typed.specs.declared.typed.Stmt.TheOpen.{Stmt-F}
use Rattle.whole_turns.proofs.pieces.parts_of.Goals as goal

pub returns-in-Do : goal.returns-in-Do
returns-in-Do c = c.in-Do.is ∙ sym (stmt.rolls-Do c.in-Do.line c.in-Do.act)

pub returns-in-If : goal.returns-in-If
returns-in-If c = c.in-If.is ∙ sym (stmt.rolls-If c.in-If.line c.in-If.cond c.in-If.yes c.in-If.no)
    ∙ ap₂ (λ (xs ys : List Stmt). roll-Stmt (Stmt-F.If c.in-If.line c.in-If.cond xs ys)) (sym c.as_slice.ensures) (sym c.as_slice-in-If.ensures)

pub returns-in-While : goal.returns-in-While
returns-in-While c = c.in-While.is ∙ sym (stmt.rolls-While c.in-While.place c.in-While.cond c.in-While.invariant c.in-While.body)
    ∙ ap (λ (xs : List Stmt). roll-Stmt (Stmt-F.While c.in-While.place c.in-While.cond c.in-While.invariant xs)) (sym c.as_slice-in-While.ensures)

pub returns-in-Split : goal.returns-in-Split
returns-in-Split c = c.in-Split.is ∙ sym (stmt.rolls-Split c.in-Split.place c.in-Split.assertion)

pub returns-in-Call : goal.returns-in-Call
returns-in-Call c = c.in-Call.is ∙ sym (stmt.rolls-Call c.in-Call.place c.in-Call.call)
