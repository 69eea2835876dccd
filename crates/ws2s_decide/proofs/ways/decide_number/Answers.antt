use Rattle.std.proofs.Common.{[]}
use Rattle.ws2s_facts.proofs.ConjunctsLemmas.{Extends-trans}
use Rattle.ws2s_decide.proofs.OwnLemmas.{IsReady-extends}
use Rattle.ws2s_decide.proofs.WaysLemmas.{Rests-extends, there-still}
use Rattle.ws2s_decide.proofs.ways.decide_number.Goals as goal

pub verdict_alone-requires-clause-rests : goal.verdict_alone-requires-clause-rests
verdict_alone-requires-clause-rests c =
    Rests-extends c.args.g.now c.args.interner.now c.easier_than.new.interner c.args.shelf.now [] c.args.kept.now c.easier_than.ensures.kept c.requires.rests

pub verdict_alone-requires-clause-there : goal.verdict_alone-requires-clause-there
verdict_alone-requires-clause-there c =
    let f = c.requires.there.0 in
    (f, there-still c.args.interner.now c.easier_than.new.interner c.args.id.0 f c.easier_than.ensures.kept c.requires.there.1)

pub tried-requires-clause-from : goal.tried-requires-clause-from
tried-requires-clause-from c =
    let f = c.requires.there.0 in
    (f, there-still c.args.interner.now c.easier_than.new.interner c.args.id.0 f c.easier_than.ensures.kept c.requires.there.1)

pub tried-requires-clause-there : goal.tried-requires-clause-there
tried-requires-clause-there c =
    let made = c.in-Some.ensures.value c.requires.there.0 c.requires.there.1 in
    (made.0, made.1)

pub tried-requires-clause-ready : goal.tried-requires-clause-ready
tried-requires-clause-ready c =
    IsReady-extends c.args.interner.now c.easier_than.new.interner c.args.first.now c.easier_than.ensures.kept c.requires.ready

pub verdict_of-requires-clause-rests : goal.verdict_of-requires-clause-rests
verdict_of-requires-clause-rests c =
    Rests-extends c.args.g.now c.args.interner.now c.tried.new.interner c.args.shelf.now [] c.args.kept.now
    (Extends-trans c.args.interner.now c.easier_than.new.interner c.tried.new.interner c.easier_than.ensures.kept c.tried.ensures.kept) c.requires.rests

pub verdict_of-requires-clause-there : goal.verdict_of-requires-clause-there
verdict_of-requires-clause-there c =
    let f = c.requires.there.0 in
    let old = c.args.interner.now in
    let new = c.tried.new.interner in
    let extends = Extends-trans old c.easier_than.new.interner new c.easier_than.ensures.kept c.tried.ensures.kept in
    (f, there-still old new c.args.id.0 f extends c.requires.there.1)

pub returns-in-Ok-None-clause-value : goal.returns-in-Ok-None-clause-value
returns-in-Ok-None-clause-value c = λ f there.
    let made = c.in-Some.ensures.value f there in
    made.2.none (rw c.in-Ok-None.field-0-is at c.in-Ok-None.ensures.value made.0 made.1)

pub returns-in-Ok-None-clause-rests : goal.returns-in-Ok-None-clause-rests
returns-in-Ok-None-clause-rests c =
    Rests-extends c.args.g.now c.args.interner.now c.tried.new.interner c.args.shelf.now [] c.args.kept.now
    (Extends-trans c.args.interner.now c.easier_than.new.interner c.tried.new.interner c.easier_than.ensures.kept c.tried.ensures.kept) c.requires.rests

pub returns-in-Ok-Witness-clause-value : goal.returns-in-Ok-Witness-clause-value
returns-in-Ok-Witness-clause-value c = λ f there.
    let made = c.in-Some.ensures.value f there in
    made.2.model c.in-Ok-Witness.tree c.in-Ok-Witness.weight
    (rw c.in-Ok-Witness.field-0-is at c.in-Ok-Witness.ensures.value made.0 made.1)

pub returns-in-Ok-Witness-clause-rests : goal.returns-in-Ok-Witness-clause-rests
returns-in-Ok-Witness-clause-rests c =
    Rests-extends c.args.g.now c.args.interner.now c.tried.new.interner c.args.shelf.now [] c.args.kept.now
    (Extends-trans c.args.interner.now c.easier_than.new.interner c.tried.new.interner c.easier_than.ensures.kept c.tried.ensures.kept) c.requires.rests
