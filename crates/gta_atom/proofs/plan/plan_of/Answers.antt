use Rattle.std.proofs.Common.{sym, subst}
use Rattle.ws2s_core.specs.declared.formula.Formula.TheVariants as formula
use Rattle.gta_atom.specs.declared.known.Form.TheVariants.{Sub, Succ0, Succ1}
use Rattle.gta_atom.specs.declared.plan.Plan.{Plan}
use Rattle.gta_atom.specs.Plans.{IsPlanOf, sub, sub_same, single, succ0, succ0_same, succ1, succ1_same, root}
use Rattle.gta_atom.proofs.PlanOfLemmas.{IsPlanOf-two}
use Rattle.gta_atom.proofs.plan.plan_of.Goals as goal

pub returns-in-Sub : goal.returns-in-Sub
returns-in-Sub c =
    subst (IsPlanOf c.of_two.result) (sym c.in-Sub.is) (IsPlanOf-two Sub formula.Sub sub sub_same c.in-Sub.x c.in-Sub.y c.of_two.result c.of_two.ensures)

pub returns-in-Single : goal.returns-in-Single
returns-in-Single c =
    subst (IsPlanOf c.of_one.result) (sym c.in-Single.is)
    (subst (λ (p : Plan). IsPlanOf p (formula.Single c.in-Single.x)) (sym c.of_one.ensures) (single c.in-Single.x))

pub returns-in-Succ0 : goal.returns-in-Succ0
returns-in-Succ0 c =
    subst (IsPlanOf c.of_two-in-Succ0.result) (sym c.in-Succ0.is)
    (IsPlanOf-two Succ0 formula.Succ0 succ0 succ0_same c.in-Succ0.x c.in-Succ0.y c.of_two-in-Succ0.result c.of_two-in-Succ0.ensures)

pub returns-in-Succ1 : goal.returns-in-Succ1
returns-in-Succ1 c =
    subst (IsPlanOf c.of_two-in-Succ1.result) (sym c.in-Succ1.is)
    (IsPlanOf-two Succ1 formula.Succ1 succ1 succ1_same c.in-Succ1.x c.in-Succ1.y c.of_two-in-Succ1.result c.of_two-in-Succ1.ensures)

pub returns-in-Root : goal.returns-in-Root
returns-in-Root c =
    subst (IsPlanOf c.of_one-in-Root.result) (sym c.in-Root.is)
    (subst (λ (p : Plan). IsPlanOf p (formula.Root c.in-Root.x)) (sym c.of_one-in-Root.ensures) (root c.in-Root.x))
