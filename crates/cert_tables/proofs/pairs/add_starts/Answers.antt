use Rattle.cert_tables.specs.Pairs.{spots_of}
use Rattle.cert_tables.proofs.StartsLemmas.{with-none, with-next, with-whole}
use Rattle.cert_tables.proofs.pairs.add_starts.Goals as goal

pub loop-right-init : goal.loop-right-init
loop-right-init c spots = with-none (spots_of c.args.space c.args.a.now c.args.b.now c.args.c.now) c.args.left c.args.starts.now spots

pub loop-right-preserved : goal.loop-right-preserved
loop-right-preserved c =
    with-next (spots_of c.args.space c.args.a.now c.args.b.now c.args.c.now) c.args.left c.args.rights.now c.loop-right.right-index _ c.args.starts.now
    c.loop-right.starts c.insert.new.self c.in_ok-made.made.items c.loop-right-test.true c.loop-right.invariant c.in_ok-made.ensures
    c.in_ok-insert.ensures.added c.in_ok-insert.ensures.there

pub returns : goal.returns
returns c =
    with-whole (spots_of c.args.space c.args.a.now c.args.b.now c.args.c.now) c.args.left c.args.rights.now c.loop-right.right-index c.args.starts.now
    c.loop-right.starts c.loop-right-test.false c.loop-right.invariant
