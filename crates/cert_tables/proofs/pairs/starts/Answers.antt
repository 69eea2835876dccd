use Rattle.std.proofs.Common.{[], sym, subst}
use Rattle.cert_tables.specs.Pairs.{spots_of}
use Rattle.cert_tables.specs.Starts.{AreLedBy}
use Rattle.cert_tables.proofs.StartsLemmas.{starts-none, starts-next, starts-whole}
use Rattle.cert_tables.proofs.pairs.starts.Goals as goal

pub loop-left-init : goal.loop-left-init
loop-left-init c =
    let lead = spots_of c.args.space c.args.a.now c.args.b.now c.args.c.now in
    subst (AreLedBy lead [] c.args.rights.now) (sym c.new-starts.ensures) (starts-none lead c.args.rights.now)

pub loop-left-preserved : goal.loop-left-preserved
loop-left-preserved c =
    starts-next (spots_of c.args.space c.args.a.now c.args.b.now c.args.c.now) c.args.lefts.now c.args.rights.now c.loop-left.left-index _
    c.loop-left.starts c.add_starts.new.starts c.loop-left-test.true c.loop-left.invariant c.in_ok-add_starts.ensures

pub returns : goal.returns
returns c =
    starts-whole (spots_of c.args.space c.args.a.now c.args.b.now c.args.c.now) c.args.lefts.now c.args.rights.now c.loop-left.left-index
    c.loop-left.starts c.loop-left-test.false c.loop-left.invariant
