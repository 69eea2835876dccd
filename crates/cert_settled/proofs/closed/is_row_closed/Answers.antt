use Rattle.std.proofs.Common.{sym, ◌∙◌}
use Rattle.std.proofs.lemmas.Bool.{false≢true}
use Rattle.cert_tables.proofs.EveryLemmas.{every-more, every-fails, every-whole}
use Rattle.cert_settled.specs.Settling.{IsCellClosed}
use Rattle.cert_settled.proofs.closed.is_row_closed.Goals as goal

pub returns-then-not-is_cell_closed : goal.returns-then-not-is_cell_closed
returns-then-not-is_cell_closed c =
    every-fails (IsCellClosed c.args.nodes.now c.args.space c.args.a.now c.args.track c.args.states.now c.args.left)
    c.args.rights.now c.loop-right.right-index 0 c.loop-right-test.true
    (λ here. false≢true (sym c.if-not-is_cell_closed.true ∙ c.is_cell_closed.ensures.1 here))

pub loop-right-preserved : goal.loop-right-preserved
loop-right-preserved c =
    every-more (IsCellClosed c.args.nodes.now c.args.space c.args.a.now c.args.track c.args.states.now c.args.left)
    c.args.rights.now c.loop-right.right-index 0 c.loop-right-test.true c.loop-right.invariant
    (c.is_cell_closed.ensures.0 c.if-not-is_cell_closed.false)

pub returns : goal.returns
returns c =
    every-whole (IsCellClosed c.args.nodes.now c.args.space c.args.a.now c.args.track c.args.states.now c.args.left)
    c.args.rights.now c.loop-right.right-index c.loop-right-test.false c.loop-right.invariant
