use Rattle.std.proofs.Common.{◌≡◌, Some, sym, ap, ◌∙◌}
use Rattle.pale_syntax.specs.declared.tree.statement.Statement.TheVariants as form
use Rattle.pale_tables.proofs.FaultLemmas.{stop_returned}
use Rattle.pale_procedures.proofs.StatementLemmas.{if-first-stop, if-else-stop, if-none, if-typed}
use Rattle.pale_procedures.proofs.statements.+statements.Goals as goal

pub read_statement-returns-in_err-yes-in-If-clause-stop : goal.read_statement-returns-in_err-yes-in-If-clause-stop
read_statement-returns-in_err-yes-in-If-clause-stop t c =
    let e = c.in_err-yes-in-If.field-0.0 in
    stop_returned _ c.from_residual-in_err-yes-in-If.result e c.from_residual-in_err-yes-in-If.ensures.1
    (if-first-stop c.args.basis.now c.args.frame.now c.args.statement.now c.in-If.place c.in-If.condition c.in-If.yes c.as_slice.result.now c.in-If.no
    c.in-If.is c.as_slice.ensures c.in_ok-condition-in-If.ensures.met e c.in_err-yes-in-If.ensures.stop)

pub read_statement-returns-in_err-no-in-If-clause-stop : goal.read_statement-returns-in_err-no-in-If-clause-stop
read_statement-returns-in_err-no-in-If-clause-stop t c =
    let e = c.in_err-no-in-If.field-0.0 in
    let other = Some c.as_slice-in-If.result.now in
    let is : c.args.statement.now ≡ form.If c.in-If.place c.in-If.condition c.in-If.yes other =
    c.in-If.is ∙ ap (form.If c.in-If.place c.in-If.condition c.in-If.yes) (c.in-Some.is ∙ ap Some (sym c.as_slice-in-If.ensures)) in
    stop_returned _ c.from_residual-in_err-no-in-If.result e c.from_residual-in_err-no-in-If.ensures.1
    (if-else-stop c.args.basis.now c.args.frame.now c.args.statement.now c.in-If.place c.in-If.condition c.in-If.yes c.as_slice.result.now other
    is c.as_slice.ensures c.in_ok-condition-in-If.ensures.met c.in_ok-yes-in-If.ensures.met c.read_block.new.frame c.in_ok-yes-in-If.ensures.frame
    e c.in_err-no-in-If.ensures.stop)

pub read_statement-returns-in_ok-no-in-If-clause-met : goal.read_statement-returns-in_ok-no-in-If-clause-met
read_statement-returns-in_ok-no-in-If-clause-met t c =
    let other = Some c.as_slice-in-If.result.now in
    let is : c.args.statement.now ≡ form.If c.in-If.place c.in-If.condition c.in-If.yes other =
    c.in-If.is ∙ ap (form.If c.in-If.place c.in-If.condition c.in-If.yes) (c.in-Some.is ∙ ap Some (sym c.as_slice-in-If.ensures)) in
    if-none c.args.basis.now c.args.frame.now c.args.statement.now c.in-If.place c.in-If.condition c.in-If.yes c.as_slice.result.now other
    is c.as_slice.ensures c.in_ok-condition-in-If.ensures.met c.in_ok-yes-in-If.ensures.met c.read_block.new.frame c.in_ok-yes-in-If.ensures.frame
    c.in_ok-no-in-If.ensures.met

pub read_statement-returns-in_ok-no-in-If-clause-statement : goal.read_statement-returns-in_ok-no-in-If-clause-statement
read_statement-returns-in_ok-no-in-If-clause-statement t c =
    let other = Some c.as_slice-in-If.result.now in
    let is : c.args.statement.now ≡ form.If c.in-If.place c.in-If.condition c.in-If.yes other =
    c.in-If.is ∙ ap (form.If c.in-If.place c.in-If.condition c.in-If.yes) (c.in-Some.is ∙ ap Some (sym c.as_slice-in-If.ensures)) in
    if-typed c.args.basis.now c.args.frame.now c.args.statement.now c.in-If.place c.in-If.condition c.in-If.yes c.as_slice.result.now other
    is c.as_slice.ensures c.in_ok-condition-in-If.ensures.met c.in_ok-yes-in-If.ensures.met c.read_block.new.frame c.in_ok-yes-in-If.ensures.frame
    c.in_ok-condition-in-If.condition c.in_ok-yes-in-If.yes c.in_ok-no-in-If.no c.in_ok-condition-in-If.ensures.condition
    c.in_ok-yes-in-If.ensures.found c.in_ok-no-in-If.ensures.found
