use Rattle.std.proofs.Common.{sym, subst}
use Rattle.std.proofs.lemmas.Option.{slice_get_within}
use Rattle.ws2s_core.specs.declared.formula.Formula.{Formula}
use Rattle.ws2s_core.specs.Satisfaction.{Same}
use Rattle.ws2s_core.proofs.NodesLemmas.{formula_at-is, at-formula_at}
use Rattle.ws2s_lean.proofs.ConjunctionsLemmas.{Same-trans}
use Rattle.ws2s_facts.specs.Conjuncts.{formula_of}
use Rattle.ws2s_facts.proofs.ConjunctsLemmas.{Extends-trans}
use Rattle.ws2s_context.proofs.rewriting.folded_left.Goals as goal

pub lean_left-requires : goal.lean_left-requires
lean_left-requires c =
    let middle = c.left_first.new.interner in
    (formula_of middle c.in_ok-fronted.fronted, at-formula_at middle c.in_ok-fronted.fronted.0 c.in_ok-fronted.ensures.there)

pub returns-clause-there : goal.returns-clause-there
returns-clause-there c =
    let middle = c.left_first.new.interner in
    let fronted = c.in_ok-fronted.fronted in
    let found = c.in_ok-id.ensures.value (formula_of middle fronted) (at-formula_at middle fronted.0 c.in_ok-fronted.ensures.there) in
    slice_get_within c.lean_left.new.interner c.in_ok-id.id.0 found.0 found.1

pub returns-clause-same : goal.returns-clause-same
returns-clause-same c =
    let old = c.args.interner.now in
    let middle = c.left_first.new.interner in
    let new = c.lean_left.new.interner in
    let fronted = c.in_ok-fronted.fronted in
    let found = c.in_ok-id.ensures.value (formula_of middle fronted) (at-formula_at middle fronted.0 c.in_ok-fronted.ensures.there) in
    Same-trans (formula_of old c.args.made) (formula_of middle fronted) (formula_of new c.in_ok-id.id) c.in_ok-fronted.ensures.same
    (subst (λ (f : Formula). Same (formula_of middle fronted) f) (sym (formula_at-is new c.in_ok-id.id.0 found.0 found.1)) found.2)

pub returns-clause-kept : goal.returns-clause-kept
returns-clause-kept c =
    Extends-trans c.args.interner.now c.left_first.new.interner c.lean_left.new.interner c.left_first.ensures.kept c.lean_left.ensures.kept
