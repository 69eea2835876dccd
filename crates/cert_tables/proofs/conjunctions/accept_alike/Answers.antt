use Rattle.std.proofs.Common.{rules, ◌≡◌}
use Rattle.cert_text.specs.declared.line.PairLine.{PairLine}
use Rattle.cert_tables.specs.Pairs.{AcceptsAlike}
use Rattle.cert_tables.proofs.EveryLemmas.{every-more, every-whole}
use Rattle.cert_tables.proofs.conjunctions.accept_alike.Goals as goal
use Rattle.cert_tables.proofs.conjunctions.accept_alike.Goals.{else-pair-eq0-via-then-pair-eq0+else-not-accepts_alike, else-pair-eq0-via-else-pair-eq0}

pub loop-pair-preserved : goal.loop-pair-preserved
loop-pair-preserved c =
    let Alike : PairLine → Type 0 = λ (pair : PairLine). pair.space ≡ 0 →
    AcceptsAlike c.args.a.now c.args.a_negated c.args.b.now c.args.b_negated c.args.c.now pair in
    elim c.else-pair-eq0.branch [
      | else-pair-eq0-via-then-pair-eq0+else-not-accepts_alike w ↦
          every-more Alike c.args.pairs.now c.loop-pair.pair-index _ c.loop-pair-test.true c.loop-pair.invariant
          (λ here. w.accepts_alike.ensures.0 (search rules))
      | else-pair-eq0-via-else-pair-eq0 w ↦
          every-more Alike c.args.pairs.now c.loop-pair.pair-index _ c.loop-pair-test.true c.loop-pair.invariant
          (λ here. absurd (w.if-pair-eq0.false here))
    ]

pub returns : goal.returns
returns c =
    every-whole (λ (pair : PairLine). pair.space ≡ 0 → AcceptsAlike c.args.a.now c.args.a_negated c.args.b.now c.args.b_negated c.args.c.now pair)
    c.args.pairs.now c.loop-pair.pair-index c.loop-pair-test.false c.loop-pair.invariant
