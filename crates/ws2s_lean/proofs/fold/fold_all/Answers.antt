use Rattle.std.proofs.Common.{All, List, subst}
use Rattle.std.proofs.lemmas.List.{nil_from_length}
use Rattle.std.proofs.lemmas.List.Elements.{All-head, All-tail}
use Rattle.ws2s_core.specs.declared.node.FormulaId.{FormulaId}
use Rattle.ws2s_lean.specs.Conjunctions.{IsThere, formula_of}
use Rattle.ws2s_lean.proofs.NumbersLemmas.{Extends-refl, Extends-trans, there-extends}
use Rattle.ws2s_lean.proofs.ConjunctionsLemmas.{IsFolded-none, IsFolded-step}
use Rattle.ws2s_lean.proofs.fold.fold_all.Goals as goal

pub loop-conjunct-init : goal.loop-conjunct-init
loop-conjunct-init c = record {
  kept = Extends-refl c.args.interner.now;
  fold = c.requires.fold;
  there = c.requires.there;
  folded = λ g h. h;
}

pub add-requires-clause-there : goal.add-requires-clause-there
add-requires-clause-there c =
    let l = c.loop-conjunct in
    let a = c.args.interner.now in
    let here = All-head (IsThere a) c.in-Some.conjunct.now c.in-Some.more.now
    (subst (λ (ids : List FormulaId). All (IsThere a) ids) c.in-Some.ensures.cases.0 l.invariant.there) in
    there-extends a l.interner c.to.result l.invariant.kept (c.to.ensures a c.requires.leaned here).to_there

pub loop-conjunct-preserved : goal.loop-conjunct-preserved
loop-conjunct-preserved c =
    let l = c.loop-conjunct in
    let a = c.args.interner.now in
    let new = c.add.new.interner in
    let conjunct = c.in-Some.conjunct.now in
    let more = c.in-Some.more.now in
    let all = subst (λ (ids : List FormulaId). All (IsThere a) ids) c.in-Some.ensures.cases.0 l.invariant.there in
    record {
      kept = Extends-trans a l.interner new l.invariant.kept c.add.ensures.kept;
      fold = c.in_ok-add.ensures.fold;
      there = All-tail (IsThere a) conjunct more all;
      folded = λ g h. l.invariant.folded g
          (IsFolded-step a l.interner (formula_of l.interner l.fold.whole) (formula_of new c.add.new.self.whole) g conjunct c.to.result l.rest.now more
          l.invariant.kept c.in-Some.ensures.cases.0 (c.to.ensures a c.requires.leaned (All-head (IsThere a) conjunct more all))
          c.in_ok-add.ensures.both h);
    }

pub returns-clause-folded : goal.returns-clause-folded
returns-clause-folded c =
    let l = c.loop-conjunct in
    let now = formula_of l.interner l.fold.whole in
    l.invariant.folded now (IsFolded-none c.args.interner.now now l.rest.now (nil_from_length l.rest.now c.in_default.ensures.cases))
