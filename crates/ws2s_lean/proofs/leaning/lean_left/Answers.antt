use Rattle.std.proofs.lemmas.Option.{slice_get_within}
use Rattle.ws2s_lean.proofs.NumbersLemmas.{there-extends}
use Rattle.ws2s_lean.proofs.ConjunctionsLemmas.{leaned-value}
use Rattle.ws2s_lean.proofs.leaning.lean_left.Goals as goal

pub parts-requires : goal.parts-requires
parts-requires c = slice_get_within c.args.interner.now c.args.id.0 c.requires.0 c.requires.1

pub lean_all-requires : goal.lean_all-requires
lean_all-requires c = c.new-leaned.ensures c.args.interner.now

pub returns-clause-value : goal.returns-clause-value
returns-clause-value c =
    let a = c.args.interner.now in
    let new = c.lean_all.new.interner in
    let kept = c.lean_all.ensures.kept in
    let there = slice_get_within a c.args.id.0 c.requires.0 c.requires.1 in
    leaned-value a new c.args.id c.to.result kept there (c.to.ensures new c.in_ok-lean_all.ensures.leaned (there-extends a new c.args.id kept there))
