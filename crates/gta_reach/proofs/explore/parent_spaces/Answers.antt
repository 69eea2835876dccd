-- One space is listed with its children.
use Rattle.std.proofs.Common.{◌<◌, length, arith}
use Rattle.gta_reach.proofs.ExploreLemmas.{AreSpaces-add}
use Rattle.gta_reach.proofs.explore.parent_spaces.Goals as goal

pub loop-s-init : goal.loop-s-init
loop-s-init c = λ s parent there. absurd (c.in_ok-parents.ensures.empty s parent there)

pub loop-s-preserved : goal.loop-s-preserved
loop-s-preserved c =
    let form = c.args.form.now in
    let parent = c.in_ok-parent.parent in
    let children = c.space.result.now.children in
    let first = c.add_at.new.lists.items in
    let inside : parent < length form.spaces =
    (let e = c.in_ok-parent.ensures in let t = c.loop-s-test.true in let l = c.len-s-end.ensures in omega arith) in
    AreSpaces-add form first c.add_at-in-loop-s.new.lists.items children.1 parent c.in_ok-add_at-2.ensures inside
    (AreSpaces-add form c.loop-s.parents.items first children.0 parent c.in_ok-add_at.ensures inside c.loop-s.invariant)
