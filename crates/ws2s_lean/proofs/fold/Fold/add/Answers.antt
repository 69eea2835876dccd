use Rattle.std.proofs.Common.{length}
use Rattle.ws2s_lean.proofs.NumbersLemmas.{parts-And, there-made}
use Rattle.ws2s_lean.proofs.ConjunctionsLemmas.{Same-folded, Same-made, IsConjunction-added}
use Rattle.ws2s_lean.proofs.fold.Fold.add.Goals as goal

pub intern_form-requires : goal.intern_form-requires
intern_form-requires c =
    parts-And (length c.args.interner.now) c.args.self.now.whole c.args.conjunct c.requires.fold.whole_there c.requires.there

pub returns-then-has-clause-both : goal.returns-then-has-clause-both
returns-then-has-clause-both c =
    Same-folded c.args.interner.now c.args.self.now.whole c.args.conjunct c.args.self.now.conjuncts.items c.requires.fold.conjunction
    (c.has.ensures c.if-has.true)

pub returns-clause-fold : goal.returns-clause-fold
returns-clause-fold c =
    let old = c.args.interner.now in
    let new = c.intern_form.new.interner in
    record {
      whole_there = there-made new c.in_ok-whole.whole.0 _ c.in_ok-whole.ensures.value;
      conjunction = IsConjunction-added old new c.args.self.now.whole c.args.conjunct c.in_ok-whole.whole c.args.self.now.conjuncts.items
          c.push.new.self.items c.intern_form.ensures.kept c.requires.fold.conjunction c.requires.there c.in_ok-whole.ensures.value
          c.in_ok-push.ensures.items;
    }

pub returns-clause-both : goal.returns-clause-both
returns-clause-both c =
    Same-made c.args.interner.now c.intern_form.new.interner c.args.self.now.whole c.args.conjunct c.in_ok-whole.whole c.in_ok-whole.ensures.value
