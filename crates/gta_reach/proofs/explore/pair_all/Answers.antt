-- A parent is a space.
use Rattle.std.proofs.Common.{◌<◌, length, arith}
use Rattle.std.specs.Prelude.{slice_index}
use Rattle.std.proofs.lemmas.List.Elements.{Contains-get_or}
use Rattle.gta_reach.proofs.explore.pair_all.Goals as goal

pub pair_at-requires-clause-parent : goal.pair_at-requires-clause-parent
pair_at-requires-clause-parent c =
    let parents = c.args.parents.now in
    let i = c.loop-parent.parent-index in
    let inside : i < length parents = (let t = c.loop-parent-test.true in let e = c.loop-parent.auto.parent-index-end in omega arith) in
    c.requires.parents (slice_index parents i) (Contains-get_or parents i 0 inside)

pub pair_at-requires-in-loop-parent-clause-parent : goal.pair_at-requires-in-loop-parent-clause-parent
pair_at-requires-in-loop-parent-clause-parent c =
    let parents = c.args.parents.now in
    let i = c.loop-parent.parent-index in
    let inside : i < length parents = (let t = c.loop-parent-test.true in let e = c.loop-parent.auto.parent-index-end in omega arith) in
    c.requires.parents (slice_index parents i) (Contains-get_or parents i 0 inside)
