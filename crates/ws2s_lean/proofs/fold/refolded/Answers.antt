use Rattle.std.proofs.Common.{All, List, subst}
use Rattle.std.proofs.lemmas.List.Elements.{All-head, All-tail}
use Rattle.ws2s_core.specs.declared.node.FormulaId.{FormulaId}
use Rattle.ws2s_lean.specs.Conjunctions.{IsThere, IsFolded, formula_of}
use Rattle.ws2s_lean.proofs.ConjunctionsLemmas.{IsLeaned-itself, IsLeaned-refolded}
use Rattle.ws2s_lean.proofs.fold.refolded.Goals as goal

pub returns-in_default-clause-leaned : goal.returns-in_default-clause-leaned
returns-in_default-clause-leaned c = IsLeaned-itself c.args.interner.now c.args.id c.requires.there

pub fold_all-requires-clause-fold : goal.fold_all-requires-clause-fold
fold_all-requires-clause-fold c =
    let a = c.args.interner.now in
    let all = subst (λ (ids : List FormulaId). All (IsThere a) ids) c.in-Some.ensures.cases.0 c.requires.conjunction.there in
    c.in_ok-fold.ensures.fold a
    (c.to.ensures a c.requires.leaned (All-head (IsThere a) c.in-Some.first.now c.in-Some.more.now all)).to_there

pub fold_all-requires-clause-there : goal.fold_all-requires-clause-there
fold_all-requires-clause-there c =
    let a = c.args.interner.now in
    All-tail (IsThere a) c.in-Some.first.now c.in-Some.more.now
    (subst (λ (ids : List FormulaId). All (IsThere a) ids) c.in-Some.ensures.cases.0 c.requires.conjunction.there)

pub returns-clause-leaned : goal.returns-clause-leaned
returns-clause-leaned c =
    let a = c.args.interner.now in
    let new = c.fold_all.new.interner in
    let first = c.in-Some.first.now in
    let more = c.in-Some.more.now in
    let made = c.fold_all.new.fold.whole in
    let all = subst (λ (ids : List FormulaId). All (IsThere a) ids) c.in-Some.ensures.cases.0 c.requires.conjunction.there in
    IsLeaned-refolded a new c.args.id first c.to.result made c.args.conjuncts.now more c.fold_all.ensures.kept c.requires.there c.requires.conjunction
    c.in-Some.ensures.cases.0 (c.to.ensures a c.requires.leaned (All-head (IsThere a) first more all))
    c.in_ok-fold_all.ensures.fold.whole_there
    (subst (λ (one : FormulaId). IsFolded a (formula_of a one) more (formula_of new made)) c.in_ok-fold.ensures.whole c.in_ok-fold_all.ensures.folded)
