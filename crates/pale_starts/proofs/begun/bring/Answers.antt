use Rattle.std.proofs.Common.{Option, IfSome, subst, sym, ◌∙◌}
use Rattle.std.proofs.lemmas.Bool.{false≢true}
use Rattle.routing_walks.specs.declared.fault.WfFault.{WfFault}
use Rattle.routing_walks.specs.WellFormed.{IsFirstFault}
use Rattle.pale_starts.specs.Begins.{not_well_formed, start_false, meets}
use Rattle.pale_starts.proofs.begun.bring.Goals as goal

pub returns-in-Some : goal.returns-in-Some
returns-in-Some c =
    not_well_formed c.in-Some.fault (subst (λ (o : Option WfFault). IfSome o (IsFirstFault c.args.types.now c.args.vars.now c.args.store)) c.in-Some.is
    c.in_ok-fault.ensures.some)

pub returns-then-not-branch : goal.returns-then-not-branch
returns-then-not-branch c =
    start_false (c.in_ok-fault.ensures.none.0 c.in_default.is)
    (λ holds. false≢true (sym c.if-not-branch.true ∙ c.in_ok-meets.ensures.1 holds))

pub returns : goal.returns
returns c = meets (c.in_ok-fault.ensures.none.0 c.in_default.is) (c.in_ok-meets.ensures.0 c.if-not-branch.false)
