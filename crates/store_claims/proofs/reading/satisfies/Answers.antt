use Rattle.std.proofs.Common.{refl, arith}
use Rattle.gta_keep.proofs.HoldingLemmas.{opened_has_no_tables}
use Rattle.store_claims.proofs.Telling.{own-auto, accepts-told}
use Rattle.store_claims.proofs.reading.satisfies.Goals as goal

pub automaton-requires : goal.automaton-requires
automaton-requires c = opened_has_no_tables _ c.in_ok-shelf.shelf c.in_ok-shelf.ensures.shelf c.in_ok-shelf.ensures.empty

pub accepts-requires : goal.accepts-requires
accepts-requires c =
    own-auto c.args.g.now c.automaton.new.shelf c.in_ok-auto.auto (c.in_ok-auto.ensures.alone.each c.in_ok-auto.auto (0, omega arith, refl))

pub release-requires : goal.release-requires
release-requires c = (c.in_ok-auto.ensures.alone.each c.in_ok-auto.auto (0, omega arith, refl)).registered

pub returns : goal.returns
returns c =
    let same = accepts-told c.args.g.now c.automaton.new.shelf c.in_ok-auto.auto (c.in_ok-auto.ensures.alone.each c.in_ok-auto.auto (0, omega arith, refl))
    c.args.formula.now c.in_ok-auto.ensures.minimal c.args.tree.now in
    (λ is. same.0 (c.in_ok-answer.ensures.0 is), λ sat. c.in_ok-answer.ensures.1 (same.1 sat))
