use Rattle.ws2s_lean.proofs.ConjunctionsLemmas.{Same-trans}
use Rattle.ws2s_facts.specs.Conjuncts.{formula_of}
use Rattle.ws2s_facts.proofs.ConjunctsLemmas.{there-extends, Extends-trans}
use Rattle.ws2s_context.proofs.GoingLemmas.{Same-rewritten}
use Rattle.ws2s_context.proofs.rewriting.rewritten.Goals as goal

pub first_machine-requires : goal.first_machine-requires
first_machine-requires c = record { id_there = c.requires; context_there = tt }

pub folded_left-requires-clause-there : goal.folded_left-requires-clause-there
folded_left-requires-clause-there c =
    (c.to-made.ensures c.run.new.interner c.in_ok-run.ensures.ok.made
    (record { id_there = there-extends c.args.interner.now c.run.new.interner c.args.id c.run.ensures.kept c.requires; context_there = tt })).to_there

pub returns-clause-same : goal.returns-clause-same
returns-clause-same c =
    let old = c.args.interner.now in
    let middle = c.run.new.interner in
    let rewritten = Same-rewritten old middle c.args.id c.to-made.result c.run.ensures.kept c.requires
    (c.to-made.ensures middle c.in_ok-run.ensures.ok.made
    (record { id_there = there-extends old middle c.args.id c.run.ensures.kept c.requires; context_there = tt })) in
    Same-trans (formula_of old c.args.id) (formula_of middle c.to-made.result) (formula_of c.folded_left.new.interner c.in_ok-folded.folded) rewritten
    c.in_ok-folded.ensures.same

pub returns-clause-kept : goal.returns-clause-kept
returns-clause-kept c =
    Extends-trans c.args.interner.now c.run.new.interner c.folded_left.new.interner c.run.ensures.kept c.folded_left.ensures.kept
