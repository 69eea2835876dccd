-- All spaces have their initial states.
use Rattle.std.proofs.Common.{◌≡◌, length, ap, arith}
use Rattle.std.proofs.lemmas.Option.{slice_get_within}
use Rattle.gta_reach.proofs.ReachLemmas.{initial-marks}
use Rattle.gta_reach.proofs.reached.initial_states.Goals as goal

pub returns : goal.returns
returns c =
    let form = c.args.form.now in
    let inv = c.loop-space.invariant in
    let items = ap length c.as_slice-space-items.ensures in
    let t = c.loop-space-test.false in
    let a = c.loop-space.auto.space-index-end in
    let v = c.loop-space.reached.ok.0 in
    let m = inv.many in
    let many : length c.loop-space.reached.items ≡ length form.spaces = omega arith in
    initial-marks form c.requires c.loop-space.reached.items many
    (λ s space at. inv.marks s space (let b = slice_get_within form.spaces s space at in omega arith) at)
