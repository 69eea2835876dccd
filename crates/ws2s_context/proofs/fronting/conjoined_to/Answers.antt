use Rattle.std.proofs.Common.{Some, ◌∙◌, ap, length, refl, sym}
use Rattle.std.proofs.lemmas.List.Elements.{All-pop}
use Rattle.std.proofs.lemmas.List.{nil_from_length}
use Rattle.ws2s_core.specs.declared.formula.Formula.TheVariants.{And}
use Rattle.ws2s_facts.specs.Conjuncts.{IsThere, formula_of}
use Rattle.ws2s_context.specs.Fronting.{links}
use Rattle.ws2s_facts.proofs.ConjunctsLemmas.{Extends-trans, at-extends, there-extends, made-And, parts-And, there-made}
use Rattle.ws2s_context.proofs.FrontingLemmas.{IsFronting-first, IsFronting-next, Same-fronted}
use Rattle.ws2s_context.proofs.fronting.conjoined_to.Goals as goal

pub make-requires-clause-parts : goal.make-requires-clause-parts
make-requires-clause-parts c =
    let a = c.args.interner.now in
    let chain = c.args.chain in
    let popped = All-pop (IsThere a) (links chain) chain.others.items (Some chain.first) refl c.requires.there in
    parts-And (length a) c.args.known chain.first c.requires.known popped.1

pub loop-conjunct-init : goal.loop-conjunct-init
loop-conjunct-init c =
    let a = c.args.interner.now in
    let new = c.make.new.interner in
    let chain = c.args.chain in
    let popped = All-pop (IsThere a) (links chain) chain.others.items (Some chain.first) refl c.requires.there in
    record {
      kept = c.make.ensures.kept;
      inside = popped.0;
      there = there-made new _ _ c.in_ok-made.ensures.value;
      fronting = IsFronting-first a (formula_of a c.args.known) (formula_of new c.in_ok-made.made) chain.first chain.others.items
          (made-And a new c.in_ok-made.made c.args.known chain.first c.in_ok-made.ensures.value);
      facts = c.in_ok-made.ensures.facts;
    }

pub make-requires-in-Some-clause-parts : goal.make-requires-in-Some-clause-parts
make-requires-in-Some-clause-parts c =
    let l = c.loop-conjunct in
    let a = c.args.interner.now in
    let popped = All-pop (IsThere a) l.others.items c.pop.new.self.items (Some c.in-Some.conjunct) c.in-Some.ensures.items l.invariant.inside in
    parts-And (length l.interner) l.made c.in-Some.conjunct l.invariant.there (there-extends a l.interner c.in-Some.conjunct l.invariant.kept popped.1)

pub loop-conjunct-preserved : goal.loop-conjunct-preserved
loop-conjunct-preserved c =
    let l = c.loop-conjunct in
    let a = c.args.interner.now in
    let new = c.make-in-Some.new.interner in
    let left = c.pop.new.self.items in
    let popped = All-pop (IsThere a) l.others.items left (Some c.in-Some.conjunct) c.in-Some.ensures.items l.invariant.inside in
    record {
      kept = Extends-trans a l.interner new l.invariant.kept c.make-in-Some.ensures.kept;
      inside = popped.0;
      there = there-made new _ _ c.in_ok-made-2.ensures.value;
      fronting = IsFronting-next a (formula_of a c.args.known) (formula_of l.interner l.made) (formula_of new c.in_ok-made-2.made) (links c.args.chain)
          l.others.items left c.in-Some.conjunct c.in-Some.ensures.items
          (made-And l.interner new c.in_ok-made-2.made l.made c.in-Some.conjunct c.in_ok-made-2.ensures.value
          ∙ ap (And (formula_of l.interner l.made)) (at-extends a l.interner c.in-Some.conjunct l.invariant.kept popped.1))
          l.invariant.fronting;
      facts = c.in_ok-made-2.ensures.facts;
    }

pub returns-clause-same : goal.returns-clause-same
returns-clause-same c = λ f conjunction.
    let l = c.loop-conjunct in
    let a = c.args.interner.now in
    Same-fronted a (formula_of a c.args.known) (formula_of l.interner l.made) f (links c.args.chain) l.others.items
    (nil_from_length l.others.items (sym l.others.ok.0 ∙ c.in_default.ensures.cases.0)) l.invariant.fronting conjunction
