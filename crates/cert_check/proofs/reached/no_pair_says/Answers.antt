use Rattle.std.proofs.Common.{sym, ◌∙◌}
use Rattle.std.proofs.lemmas.Bool.{false≢true}
use Rattle.cert_text.specs.declared.line.PairLine.{PairLine}
use Rattle.cert_tables.proofs.EveryLemmas.{every-more, every-fails, every-whole}
use Rattle.cert_check.specs.Reached.{Misses}
use Rattle.cert_check.proofs.reached.no_pair_says.Goals as goal

abbrev none : PairLine
none = record { space = 0; first = 0; second = 0; state = 0 }

pub returns-then-not-misses : goal.returns-then-not-misses
returns-then-not-misses c =
    every-fails (λ (l : PairLine). Misses c.args.table.now c.args.is_accepting l.space l.state) c.args.pairs.now c.loop-pair.pair-index none
    c.loop-pair-test.true (λ here. false≢true (sym c.if-not-misses.true ∙ c.misses.ensures.1 here))

pub loop-pair-preserved : goal.loop-pair-preserved
loop-pair-preserved c =
    every-more (λ (l : PairLine). Misses c.args.table.now c.args.is_accepting l.space l.state) c.args.pairs.now c.loop-pair.pair-index none
    c.loop-pair-test.true c.loop-pair.invariant (c.misses.ensures.0 c.if-not-misses.false)

pub returns : goal.returns
returns c =
    every-whole (λ (l : PairLine). Misses c.args.table.now c.args.is_accepting l.space l.state) c.args.pairs.now c.loop-pair.pair-index
    c.loop-pair-test.false c.loop-pair.invariant
