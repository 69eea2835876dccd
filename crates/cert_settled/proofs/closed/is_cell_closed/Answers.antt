use Rattle.std.proofs.Common.{Bool}
use Rattle.cert_nodes.specs.Spots.{state_at}
use Rattle.cert_tables.specs.Automata.{spot_in}
use Rattle.cert_settled.specs.Settling.{alone}
use Rattle.cert_settled.proofs.ClosedLemmas.{both-bits, not-bits}
use Rattle.cert_settled.proofs.closed.is_cell_closed.Goals as goal

pub returns-then-has : goal.returns-then-has
returns-then-has c =
    both-bits c.args.states.now c.args.space
    (λ (bit : Bool). state_at c.args.nodes.now 0 (alone c.args.track bit) (spot_in c.args.a.now c.args.space c.args.left c.args.right))
    c.cell_of-unset.result c.cell_of-set.result c.has-then-has.result c.cell_of-unset.ensures c.cell_of-set.ensures
    (c.has.ensures.0 c.if-has.true) c.has-then-has.ensures

pub returns-else-has : goal.returns-else-has
returns-else-has c =
    not-bits c.args.states.now c.args.space
    (λ (bit : Bool). state_at c.args.nodes.now 0 (alone c.args.track bit) (spot_in c.args.a.now c.args.space c.args.left c.args.right))
    c.cell_of-unset.result c.has.result c.cell_of-unset.ensures c.if-has.false c.has.ensures
