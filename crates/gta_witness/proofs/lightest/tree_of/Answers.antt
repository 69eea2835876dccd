-- The tree of a lightest accepting state.
use Rattle.std.proofs.Common.{Some}
use Rattle.gta_witness.specs.Rules.{key}
use Rattle.gta_witness.specs.Searching.{found_by}
use Rattle.gta_witness.proofs.LowerLemmas.{lightest-form, large-form, room-form, readable-form}
use Rattle.gta_witness.proofs.lightest.tree_of.Goals as goal

pub returns-then-not-has_room-clause-value : goal.returns-then-not-has_room-clause-value
returns-then-not-has_room-clause-value c =
    large-form c.args.form.now c.requires.form c.args.weigh.now (found_by c.args.search.now) c.args.state c.args.weight c.requires.over c.requires.accepting
    (λ room. let has = c.has_room.ensures.1 room in let not = c.if-not-has_room.true in absurd cc)

pub grow-requires-clause-readable : goal.grow-requires-clause-readable
grow-requires-clause-readable c =
    readable-form c.args.form.now c.requires.form c.args.weigh.now (found_by c.args.search.now) (Some (key c.args.weight)) c.requires.over

pub grow-requires-clause-settled : goal.grow-requires-clause-settled
grow-requires-clause-settled c =
    (c.args.weight, c.requires.accepting.settled, (c.has_room.ensures.0 (let has = c.if-not-has_room.false in cc)).1)

pub returns-clause-value : goal.returns-clause-value
returns-clause-value c =
    lightest-form c.args.form.now c.requires.form c.args.weigh.now (found_by c.args.search.now) c.args.state c.args.weight c.in_ok-tree.tree c.requires.over
    c.requires.accepting (c.has_room.ensures.0 (let has = c.if-not-has_room.false in cc)) c.in_ok-tree.ensures

pub returns-clause-too_large : goal.returns-clause-too_large
returns-clause-too_large c = λ large. absurd
    (room-form c.args.form.now c.requires.form c.args.weigh.now (found_by c.args.search.now) c.args.state c.args.weight c.requires.over c.requires.accepting
    (c.has_room.ensures.0 (let has = c.if-not-has_room.false in cc)) large)
