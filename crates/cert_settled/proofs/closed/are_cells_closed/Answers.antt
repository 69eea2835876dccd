use Rattle.std.proofs.Common.{sym, ◌∙◌}
use Rattle.std.proofs.lemmas.Bool.{false≢true}
use Rattle.cert_tables.proofs.EveryLemmas.{every-more, every-fails, every-whole}
use Rattle.cert_settled.specs.Settling.{IsRowClosed}
use Rattle.cert_settled.proofs.closed.are_cells_closed.Goals as goal

pub returns-then-not-is_row_closed : goal.returns-then-not-is_row_closed
returns-then-not-is_row_closed c =
    every-fails (IsRowClosed c.args.nodes.now c.args.space c.args.a.now c.args.track c.args.states.now c.args.rights.now)
    c.args.lefts.now c.loop-left.left-index 0 c.loop-left-test.true
    (λ here. false≢true (sym c.if-not-is_row_closed.true ∙ c.is_row_closed.ensures.1 here))

pub loop-left-preserved : goal.loop-left-preserved
loop-left-preserved c =
    every-more (IsRowClosed c.args.nodes.now c.args.space c.args.a.now c.args.track c.args.states.now c.args.rights.now)
    c.args.lefts.now c.loop-left.left-index 0 c.loop-left-test.true c.loop-left.invariant
    (c.is_row_closed.ensures.0 c.if-not-is_row_closed.false)

pub returns : goal.returns
returns c =
    every-whole (IsRowClosed c.args.nodes.now c.args.space c.args.a.now c.args.track c.args.states.now c.args.rights.now)
    c.args.lefts.now c.loop-left.left-index c.loop-left-test.false c.loop-left.invariant
