use Rattle.std.proofs.Common.{◌∙◌, ap, length, subst}
use Rattle.ws2s_core.specs.declared.formula.Formula.TheVariants.{rolls-And, rolls-Not, rolls-Ex2}
use Rattle.ws2s_core.specs.Nodes.{formula_of_node, HasPartsBelow}
use Rattle.ws2s_facts.specs.Conjuncts.{formula_of}
use Rattle.ws2s_facts.proofs.ConjunctsLemmas.{halves-below, part-below_not, part-below_ex2}
use Rattle.ws2s_context.proofs.visiting.take_apart.Goals as goal

pub divide-requires-clause-is : goal.divide-requires-clause-is
divide-requires-clause-is c =
    c.requires.is ∙ ap (formula_of_node c.args.interner.now) c.in-And.is
    ∙ rolls-And (formula_of c.args.interner.now c.in-And.f) (formula_of c.args.interner.now c.in-And.g)

pub divide-requires-clause-left : goal.divide-requires-clause-left
divide-requires-clause-left c =
    (halves-below (length c.args.interner.now) c.in-And.f c.in-And.g
    (subst (HasPartsBelow (length c.args.interner.now)) c.in-And.is c.requires.parts)).0

pub divide-requires-clause-right : goal.divide-requires-clause-right
divide-requires-clause-right c =
    (halves-below (length c.args.interner.now) c.in-And.f c.in-And.g
    (subst (HasPartsBelow (length c.args.interner.now)) c.in-And.is c.requires.parts)).1

pub enter_negation-requires-clause-is : goal.enter_negation-requires-clause-is
enter_negation-requires-clause-is c =
    c.requires.is ∙ ap (formula_of_node c.args.interner.now) c.in-Not.is ∙ rolls-Not (formula_of c.args.interner.now c.in-Not.f)

pub enter_negation-requires-clause-inner : goal.enter_negation-requires-clause-inner
enter_negation-requires-clause-inner c =
    part-below_not (length c.args.interner.now) c.in-Not.f (subst (HasPartsBelow (length c.args.interner.now)) c.in-Not.is c.requires.parts)

pub enter_quantifier-requires-clause-is : goal.enter_quantifier-requires-clause-is
enter_quantifier-requires-clause-is c =
    c.requires.is ∙ ap (formula_of_node c.args.interner.now) c.in-Ex2.is ∙ rolls-Ex2 c.in-Ex2.t (formula_of c.args.interner.now c.in-Ex2.f)

pub enter_quantifier-requires-clause-inner : goal.enter_quantifier-requires-clause-inner
enter_quantifier-requires-clause-inner c =
    part-below_ex2 (length c.args.interner.now) c.in-Ex2.t c.in-Ex2.f
    (subst (HasPartsBelow (length c.args.interner.now)) c.in-Ex2.is c.requires.parts)
