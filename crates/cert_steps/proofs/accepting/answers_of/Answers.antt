use Rattle.std.proofs.Common.{◌<◌, length, get_or, arith}
use Rattle.cert_steps.proofs.AcceptingLemmas.{listed-next}
use Rattle.cert_steps.proofs.accepting.answers_of.Goals as goal

pub loop-state-preserved : goal.loop-state-preserved
loop-state-preserved c =
    let listed = c.args.listed.now in
    let i = c.loop-state.state-index in
    let long = c.in_ok-extend.ensures.long in
    let within : get_or listed i 0 < length c.extend.new.answers = omega (arith, long) in
    listed-next listed i c.loop-state.answers c.extend.new.answers c.set.new.self c.loop-state-test.true c.loop-state.invariant
    c.in_ok-extend.ensures.same within c.set.ensures
