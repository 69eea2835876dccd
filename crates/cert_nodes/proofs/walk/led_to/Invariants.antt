use Rattle.cert_nodes.specs.Walks.{WalksFrom}
use Rattle.cert_nodes.proofs.walk.led_to.Given as goal

-- the lists before the place have been looked at
abbrev pub invariant-loop-place : goal.invariant-loop-place
invariant-loop-place l = WalksFrom l.nodes l.dropped l.fn.starts l.met l.lists l.place
