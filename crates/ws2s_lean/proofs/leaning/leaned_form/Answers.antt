use Rattle.std.proofs.Common.{◌∙◌, length}
use Rattle.ws2s_lean.proofs.NumbersLemmas.{node-Not, node-Ex2, inner-below_not, inner-below_ex2}
use Rattle.ws2s_lean.proofs.ConjunctionsLemmas.{IsLeaned-itself}
use Rattle.ws2s_lean.proofs.leaning.leaned_form.Goals as goal

pub leaned_negation-requires-clause-is : goal.leaned_negation-requires-clause-is
leaned_negation-requires-clause-is c = c.requires.is ∙ node-Not c.args.interner.now c.in-Not.f c.args.node c.in-Not.is

pub leaned_negation-requires-clause-inner : goal.leaned_negation-requires-clause-inner
leaned_negation-requires-clause-inner c =
    inner-below_not (length c.args.interner.now) c.in-Not.f c.args.node c.requires.parts c.in-Not.is

pub leaned_quantifier-requires-clause-is : goal.leaned_quantifier-requires-clause-is
leaned_quantifier-requires-clause-is c = c.requires.is ∙ node-Ex2 c.args.interner.now c.in-Ex2.t c.in-Ex2.f c.args.node c.in-Ex2.is

pub leaned_quantifier-requires-clause-inner : goal.leaned_quantifier-requires-clause-inner
leaned_quantifier-requires-clause-inner c =
    inner-below_ex2 (length c.args.interner.now) c.in-Ex2.t c.in-Ex2.f c.args.node c.requires.parts c.in-Ex2.is

pub returns-in_default-clause-leaned : goal.returns-in_default-clause-leaned
returns-in_default-clause-leaned c = IsLeaned-itself c.args.interner.now c.args.id c.requires.there
