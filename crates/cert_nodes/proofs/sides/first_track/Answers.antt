use Rattle.gta_theory.proofs.ListsLemmas.{Contains-none}
use Rattle.cert_nodes.proofs.WalksLemmas.{first-more}
use Rattle.cert_nodes.proofs.sides.first_track.Goals as goal

pub loop-spot-init : goal.loop-spot-init
loop-spot-init c spot listed = absurd (Contains-none spot listed)

pub loop-spot-preserved : goal.loop-spot-preserved
loop-spot-preserved c =
    first-more c.args.nodes.now c.args.spots.now c.loop-spot.spot-index _ c.loop-spot.first c.track.result c.earlier-first.result c.loop-spot-test.true
    c.loop-spot.invariant c.track.ensures c.earlier-first.ensures
