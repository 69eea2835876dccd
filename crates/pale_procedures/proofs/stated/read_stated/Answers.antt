use Rattle.std.proofs.Common.{sym, subst}
use Rattle.store_logic.specs.Uses.{CanExpand}
use Rattle.pale_fitting.proofs.ProcedureLemmas.{procedure-can-expand}
use Rattle.pale_procedures.proofs.stated.read_stated.Goals as goal

pub expand-requires : goal.expand-requires
expand-requires c =
    subst (CanExpand c.args.declared.now.preds) (sym c.in_ok-assertion.ensures.assertion)
    (procedure-can-expand c.args.declared.now c.requires.variables.vars c.args.scope.now c.args.bracketed.now.assertion c.requires.declarations
    c.requires.variables.each c.in_ok-assertion.ensures.met)
