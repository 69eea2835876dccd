use Rattle.std.proofs.Common.{List, All, ◌∙◌, refl, sym, subst}
use Rattle.std.proofs.lemmas.List.Elements.{All-head, All-tail}
use Rattle.ws2s_core.specs.declared.node.FormulaId.{FormulaId}
use Rattle.ws2s_facts.specs.Conjuncts.{IsThere}
use Rattle.ws2s_plan.proofs.PlanLemmas.{IsNetworkOf-finished}
use Rattle.ws2s_plan.proofs.planning.finished.Goals as goal

pub conjunction_of-requires-clause-first : goal.conjunction_of-requires-clause-first
conjunction_of-requires-clause-first c =
    let old = c.args.interner.now in
    let units = sym c.as_slice.ensures.value ∙ c.in-Some.ensures.cases.0 in
    All-head (IsThere old) c.in-Some.first.now c.in-Some.more.now (subst (λ (ids : List FormulaId). All (IsThere old) ids) units c.requires.there)

pub conjunction_of-requires-clause-others : goal.conjunction_of-requires-clause-others
conjunction_of-requires-clause-others c =
    let old = c.args.interner.now in
    let units = sym c.as_slice.ensures.value ∙ c.in-Some.ensures.cases.0 in
    All-tail (IsThere old) c.in-Some.first.now c.in-Some.more.now (subst (λ (ids : List FormulaId). All (IsThere old) ids) units c.requires.there)

pub returns-clause-value : goal.returns-clause-value
returns-clause-value c = λ weigh f was all_tracks.
    IsNetworkOf-finished c.args.interner.now c.conjunction_of.new.interner weigh f c.args.planning _ c.in-Some.first.now c.in-Some.more.now
    c.conjunction_of.ensures.kept (sym c.as_slice.ensures.value ∙ c.in-Some.ensures.cases.0) refl c.in_ok-rest.ensures.there c.in_ok-rest.ensures.folded
    all_tracks was
