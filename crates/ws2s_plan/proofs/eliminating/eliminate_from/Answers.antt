use Rattle.std.proofs.Common.{List, All, ◌∙◌, subst, sym, length}
use Rattle.std.proofs.lemmas.List.Elements.{All-head, All-tail}
use Rattle.ws2s_core.specs.declared.node.FormulaId.{FormulaId}
use Rattle.ws2s_facts.specs.Conjuncts.{IsThere}
use Rattle.ws2s_facts.proofs.ConjunctsLemmas.{Extends-trans, made-Ex2, there-made, parts-Ex2}
use Rattle.ws2s_plan.proofs.PlanLemmas.{IsEliminatedBy-parted}
use Rattle.ws2s_plan.proofs.eliminating.eliminate_from.Goals as goal

pub conjunction_of-requires-clause-first : goal.conjunction_of-requires-clause-first
conjunction_of-requires-clause-first c =
    let old = c.args.interner.now in
    let parts = c.in_ok-members.ensures old c.requires.facts c.requires.there in
    let members = sym c.as_slice.ensures.value ∙ c.in-Some.ensures.cases.0 in
    All-head (IsThere old) c.in-Some.first.now c.in-Some.more.now (subst (λ (ids : List FormulaId). All (IsThere old) ids) members parts.members_there)

pub conjunction_of-requires-clause-others : goal.conjunction_of-requires-clause-others
conjunction_of-requires-clause-others c =
    let old = c.args.interner.now in
    let parts = c.in_ok-members.ensures old c.requires.facts c.requires.there in
    let members = sym c.as_slice.ensures.value ∙ c.in-Some.ensures.cases.0 in
    All-tail (IsThere old) c.in-Some.first.now c.in-Some.more.now (subst (λ (ids : List FormulaId). All (IsThere old) ids) members parts.members_there)

pub make-requires-clause-parts : goal.make-requires-clause-parts
make-requires-clause-parts c =
    parts-Ex2 (length c.conjunction_of.new.interner) c.args.t c.in_ok-bucket.bucket c.in_ok-bucket.ensures.there

pub returns-clause-value : goal.returns-clause-value
returns-clause-value c =
    let old = c.args.interner.now in
    let between = c.conjunction_of.new.interner in
    let new = c.make.new.interner in
    IsEliminatedBy-parted old between new c.args.t c.args.units.now c.in_ok-members.field-0 c.in-Some.first.now c.in_ok-quantified.quantified
    c.in-Some.more.now _ c.conjunction_of.ensures.kept c.make.ensures.kept
    (Extends-trans old between new c.conjunction_of.ensures.kept c.make.ensures.kept) c.requires.there
    (c.in_ok-members.ensures old c.requires.facts c.requires.there) (sym c.as_slice.ensures.value ∙ c.in-Some.ensures.cases.0)
    c.in_ok-bucket.ensures.there c.in_ok-bucket.ensures.folded
    (made-Ex2 between new c.args.t c.in_ok-quantified.quantified c.in_ok-bucket.bucket c.in_ok-quantified.ensures.value)
    (there-made new _ _ c.in_ok-quantified.ensures.value) c.in_ok-insert.ensures.items

pub returns-clause-kept : goal.returns-clause-kept
returns-clause-kept c =
    Extends-trans c.args.interner.now c.conjunction_of.new.interner c.make.new.interner c.conjunction_of.ensures.kept c.make.ensures.kept
