use Rattle.std.proofs.Common.{List, refl, subst}
use Rattle.ws2s_core.specs.declared.node.FormulaId.{FormulaId}
use Rattle.ws2s_plan.specs.Steps.{IsParted}
use Rattle.ws2s_plan.proofs.PlanLemmas.{none-long, IsParted-start}
use Rattle.ws2s_plan.proofs.eliminating.parts_of.Goals as goal

pub loop-unit-init : goal.loop-unit-init
loop-unit-init c = λ formulas known there.
    IsParted-start formulas c.args.t c.args.units.now _ c.new.ensures.items c.new-2.ensures.items refl there

pub loop-unit-preserved : goal.loop-unit-preserved
loop-unit-preserved c = λ formulas known there.
    c.in_ok-part.ensures formulas c.args.units.now c.in-Some.more.now known
    (subst (λ (rest : List FormulaId). IsParted formulas c.args.t c.args.units.now rest c.loop-unit.parted) c.in-Some.ensures.cases.0
    (c.loop-unit.invariant formulas known there))

pub returns : goal.returns
returns c = λ formulas known there.
    subst (λ (rest : List FormulaId). IsParted formulas c.args.t c.args.units.now rest c.loop-unit.parted)
    (none-long c.loop-unit.rest.now c.in_default.ensures.cases) (c.loop-unit.invariant formulas known there)
