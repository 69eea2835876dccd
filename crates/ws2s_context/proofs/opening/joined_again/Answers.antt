use Rattle.std.proofs.Common.{◌∙◌, Some, ap, sym}
use Rattle.std.proofs.lemmas.List.Elements.{All-pop}
use Rattle.ws2s_core.specs.declared.formula.Formula.TheVariants.{And}
use Rattle.ws2s_theory.specs.Contexts.{conjoined}
use Rattle.ws2s_facts.specs.Conjuncts.{IsThere, formula_of, formulas_at}
use Rattle.ws2s_facts.proofs.ConjunctsLemmas.{Extends-trans, at-extends, made-And, there-made}
use Rattle.ws2s_context.proofs.OpeningLemmas.{conjoined-pushed}
use Rattle.ws2s_context.proofs.opening.joined_again.Goals as goal

pub loop-conjunct-preserved : goal.loop-conjunct-preserved
loop-conjunct-preserved c =
    let l = c.loop-conjunct in
    let a = c.args.interner.now in
    let new = c.make.new.interner in
    let left = c.pop.new.self.items in
    let popped = All-pop (IsThere a) l.conjuncts.items left (Some c.in-Some.conjunct) c.in-Some.ensures.items l.invariant.inside in
    record {
      kept = Extends-trans a l.interner new l.invariant.kept c.make.ensures.kept;
      inside = popped.0;
      there = there-made new _ _ c.in_ok-made.ensures.value;
      value = ap (conjoined (formulas_at a left))
          (made-And l.interner new c.in_ok-made.made c.in-Some.conjunct l.made c.in_ok-made.ensures.value
          ∙ ap (λ f. And f (formula_of l.interner l.made)) (at-extends a l.interner c.in-Some.conjunct l.invariant.kept popped.1))
          ∙ sym (conjoined-pushed a left l.conjuncts.items c.in-Some.conjunct (formula_of l.interner l.made) c.in-Some.ensures.items)
          ∙ l.invariant.value;
      facts = c.in_ok-made.ensures.facts;
    }
