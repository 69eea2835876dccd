use Rattle.std.proofs.Common.{◌<◌, length, arith}
use Rattle.store_tests.proofs.ChainLemmas.{can-expand}
use Rattle.store_tests.proofs.chains.chain.Goals as goal

pub returns : goal.returns
returns c =
    let inside : c.args.more < length c.loop-last.preds = omega (arith, c.loop-last.invariant.long) in
    can-expand c.loop-last.preds c.loop-last.invariant.links c.args.more inside
