use Rattle.std.proofs.Common.{length}
use Rattle.ws2s_lean.proofs.NumbersLemmas.{parts-Not}
use Rattle.ws2s_lean.proofs.ConjunctionsLemmas.{IsLeaned-negation}
use Rattle.ws2s_lean.proofs.leaning.leaned_negation.Goals as goal

pub intern_form-requires : goal.intern_form-requires
intern_form-requires c =
    parts-Not (length c.args.interner.now) c.to-inner.result (c.to-inner.ensures c.args.interner.now c.requires.leaned c.requires.inner).to_there

pub returns-clause-leaned : goal.returns-clause-leaned
returns-clause-leaned c =
    let a = c.args.interner.now in
    IsLeaned-negation a c.intern_form.new.interner c.args.id c.args.f c.to-inner.result c.in_ok-made.made c.intern_form.ensures.kept c.requires.there
    c.requires.is (c.to-inner.ensures a c.requires.leaned c.requires.inner) c.in_ok-made.ensures.value
