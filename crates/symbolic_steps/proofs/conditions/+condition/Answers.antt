use Rattle.std.proofs.lemmas.Result.{IfOk-weaker}
use Rattle.symbolic_steps.proofs.ConditionLemmas.{tells-True, tells-False, tells-Bool, tells-Is, tells-Same, tells-Not, tells-And, tells-Or}
use Rattle.symbolic_steps.proofs.conditions.+condition.Goals as goal

pub returns-in-True : goal.returns-in-True
returns-in-True t c = IfOk-weaker c.true_at.result _ _
    (λ formula made. tells-True c.args.l.now.types c.args.l.now.vars c.args.cond.now c.args.reached.now formula c.args.w.now c.in-True.is made)
    c.true_at.ensures

pub returns-in-False : goal.returns-in-False
returns-in-False t c = IfOk-weaker c.false_at.result _ _
    (λ formula made. tells-False c.args.l.now.types c.args.l.now.vars c.args.cond.now c.args.reached.now formula c.args.w.now c.in-False.is made)
    c.false_at.ensures

pub returns-in-Bool : goal.returns-in-Bool
returns-in-Bool t c = IfOk-weaker c.path_truth.result _ _
    (λ formula told. tells-Bool c.args.l.now.types c.args.l.now.vars c.args.cond.now c.in-Bool.path c.args.reached.now formula c.args.w.now
    c.path_truth.new.w c.in-Bool.is told) c.path_truth.ensures

pub returns-in-Is : goal.returns-in-Is
returns-in-Is t c = IfOk-weaker c.path_is.result _ _
    (λ formula told. tells-Is c.args.l.now.types c.args.l.now.vars c.args.cond.now c.in-Is.path c.in-Is.variant c.args.reached.now formula c.args.w.now
    c.path_is.new.w c.in-Is.is told) c.path_is.ensures

pub returns-in-Same : goal.returns-in-Same
returns-in-Same t c = IfOk-weaker c.are_same.result _ _
    (λ formula told. tells-Same c.args.l.now.types c.args.l.now.vars c.args.cond.now c.in-Same.one c.in-Same.other c.args.reached.now formula
    c.args.w.now c.are_same.new.w c.in-Same.is told) c.are_same.ensures

pub returns-in_ok-inner-in-Not : goal.returns-in_ok-inner-in-Not
returns-in_ok-inner-in-Not t c = IfOk-weaker c.not.result _ _
    (λ formula made. tells-Not c.args.l.now.types c.args.l.now.vars c.args.cond.now c.in-Not.part c.get.result.now c.args.reached.now formula
    c.in_ok-inner-in-Not.inner c.args.w.now c.condition.new.w c.in-Not.is c.get.ensures c.in_ok-inner-in-Not.ensures made) c.not.ensures

pub returns-in_ok-second-in-And : goal.returns-in_ok-second-in-And
returns-in_ok-second-in-And t c = IfOk-weaker c.and.result _ _
    (λ formula made. tells-And c.args.l.now.types c.args.l.now.vars c.args.cond.now c.in-And.left c.in-And.right c.get-in-And.result.now
    c.get-in-And-2.result.now c.args.reached.now c.in_ok-there-in-And.there c.in_ok-first-in-And.first c.in_ok-second-in-And.second formula c.args.w.now
    c.condition-in-And.new.w c.condition-in-And-2.new.w c.in-And.is c.get-in-And.ensures c.get-in-And-2.ensures c.in_ok-first-in-And.ensures
    c.in_ok-there-in-And.ensures c.in_ok-second-in-And.ensures made) c.and.ensures

pub returns-in_ok-second-in-Or : goal.returns-in_ok-second-in-Or
returns-in_ok-second-in-Or t c = IfOk-weaker c.or.result _ _
    (λ formula made. tells-Or c.args.l.now.types c.args.l.now.vars c.args.cond.now c.in-Or.left c.in-Or.right c.get-in-Or.result.now
    c.get-in-Or-2.result.now c.args.reached.now c.in_ok-there-in-Or.there c.in_ok-first-in-Or.first c.in_ok-second-in-Or.second formula c.args.w.now
    c.condition-in-Or.new.w c.condition-in-Or-2.new.w c.in-Or.is c.get-in-Or.ensures c.get-in-Or-2.ensures c.in_ok-first-in-Or.ensures
    c.in_ok-there-in-Or.ensures c.in_ok-second-in-Or.ensures made) c.or.ensures
