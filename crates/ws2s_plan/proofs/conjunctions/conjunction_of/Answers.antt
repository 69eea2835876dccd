use Rattle.std.proofs.Common.{List, All, ◌∙◌, ap, length, subst, sym}
use Rattle.std.proofs.lemmas.List.Elements.{All-head, All-tail}
use Rattle.ws2s_core.specs.declared.formula.Formula.TheVariants.{And}
use Rattle.ws2s_core.specs.declared.node.FormulaId.{FormulaId}
use Rattle.ws2s_facts.specs.Conjuncts.{IsThere, formula_of}
use Rattle.ws2s_facts.proofs.ConjunctsLemmas.{Extends-refl, Extends-trans, at-extends, there-extends, made-And, there-made, parts-And}
use Rattle.ws2s_lean.specs.Conjunctions.{IsFolded}
use Rattle.ws2s_plan.proofs.PlanLemmas.{none-long, IsFolded-nil, IsFolded-step}
use Rattle.ws2s_plan.proofs.conjunctions.conjunction_of.Goals as goal

pub loop-conjunct-init : goal.loop-conjunct-init
loop-conjunct-init c = record {
  kept = Extends-refl c.args.interner.now;
  there = c.requires.first;
  inside = c.requires.others;
  folded = λ g h. h;
  facts = c.requires.facts;
}

pub make-requires-clause-parts : goal.make-requires-clause-parts
make-requires-clause-parts c =
    let l = c.loop-conjunct in
    let a = c.args.interner.now in
    let all = subst (λ (ids : List FormulaId). All (IsThere a) ids) c.in-Some.ensures.cases.0 l.invariant.inside in
    parts-And (length l.interner) l.made c.in-Some.conjunct.now l.invariant.there
    (there-extends a l.interner c.in-Some.conjunct.now l.invariant.kept (All-head (IsThere a) c.in-Some.conjunct.now c.in-Some.more.now all))

pub loop-conjunct-preserved : goal.loop-conjunct-preserved
loop-conjunct-preserved c =
    let l = c.loop-conjunct in
    let a = c.args.interner.now in
    let new = c.make.new.interner in
    let conjunct = c.in-Some.conjunct.now in
    let more = c.in-Some.more.now in
    let all = subst (λ (ids : List FormulaId). All (IsThere a) ids) c.in-Some.ensures.cases.0 l.invariant.inside in
    let is = made-And l.interner new c.in_ok-made.made l.made conjunct c.in_ok-made.ensures.value
    ∙ ap (And (formula_of l.interner l.made)) (at-extends a l.interner conjunct l.invariant.kept (All-head (IsThere a) conjunct more all)) in
    record {
      kept = Extends-trans a l.interner new l.invariant.kept c.make.ensures.kept;
      there = there-made new _ _ c.in_ok-made.ensures.value;
      inside = All-tail (IsThere a) conjunct more all;
      folded = λ g h. l.invariant.folded g (subst (λ (ids : List FormulaId). IsFolded a (formula_of l.interner l.made) ids g) (sym c.in-Some.ensures.cases.0)
          (IsFolded-step a (formula_of l.interner l.made) (formula_of new c.in_ok-made.made) g conjunct more is h));
      facts = c.in_ok-made.ensures.facts;
    }

pub returns-clause-folded : goal.returns-clause-folded
returns-clause-folded c =
    let l = c.loop-conjunct in
    let a = c.args.interner.now in
    l.invariant.folded (formula_of l.interner l.made)
    (subst (λ (ids : List FormulaId). IsFolded a (formula_of l.interner l.made) ids (formula_of l.interner l.made))
    (sym (none-long l.rest.now c.in_default.ensures.cases)) (IsFolded-nil a (formula_of l.interner l.made)))
