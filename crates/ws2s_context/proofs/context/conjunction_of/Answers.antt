use Rattle.std.proofs.Common.{All, List, [], ap, sym, subst}
use Rattle.std.proofs.lemmas.List.Elements.{All-head, All-tail}
use Rattle.ws2s_core.specs.declared.node.FormulaId.{FormulaId}
use Rattle.ws2s_facts.specs.Conjuncts.{IsThere, joined, formulas_at}
use Rattle.ws2s_facts.proofs.ConjunctsLemmas.{Extends-refl, Extends-trans, there-extends, joined-turn}
use Rattle.ws2s_context.proofs.context.conjunction_of.Goals as goal

pub loop-conjunct-init : goal.loop-conjunct-init
loop-conjunct-init c =
    let a = c.args.interner.now in
    record {
      kept = Extends-refl a;
      there = tt;
      inside = subst (λ (ids : List FormulaId). All (IsThere a) ids) (sym c.as_slice-rest.ensures.value) c.requires.there;
      value = ap (λ (ids : List FormulaId). joined [] (formulas_at a ids)) c.as_slice-rest.ensures.value;
      facts = c.requires.facts;
    }

pub put_after-requires-clause-conjunct : goal.put_after-requires-clause-conjunct
put_after-requires-clause-conjunct c =
    let l = c.loop-conjunct in
    let a = c.args.interner.now in
    there-extends a l.interner c.in-Some.conjunct.now l.invariant.kept
    (All-head (IsThere a) c.in-Some.conjunct.now c.in-Some.more.now
    (subst (λ (ids : List FormulaId). All (IsThere a) ids) c.in-Some.ensures.cases.0 l.invariant.inside))

pub loop-conjunct-preserved : goal.loop-conjunct-preserved
loop-conjunct-preserved c =
    let l = c.loop-conjunct in
    let a = c.args.interner.now in
    let new = c.put_after.new.interner in
    let conjunct = c.in-Some.conjunct.now in
    let more = c.in-Some.more.now in
    let all = subst (λ (ids : List FormulaId). All (IsThere a) ids) c.in-Some.ensures.cases.0 l.invariant.inside in
    record {
      kept = Extends-trans a l.interner new l.invariant.kept c.put_after.ensures.kept;
      there = c.in_ok-made.ensures.there;
      inside = All-tail (IsThere a) conjunct more all;
      value = joined-turn a l.interner new l.rest.now more conjunct c.in_ok-made.made l.context _ l.invariant.kept
          (All-head (IsThere a) conjunct more all) c.in-Some.ensures.cases.0 l.invariant.value c.in_ok-made.ensures.value;
      facts = c.in_ok-made.ensures.facts;
    }
