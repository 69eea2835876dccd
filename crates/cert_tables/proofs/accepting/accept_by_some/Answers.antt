use Rattle.std.proofs.Common.{◌≡◌, subst}
use Rattle.cert_text.specs.declared.line.SetLine.{SetLine}
use Rattle.cert_tables.specs.Accepting.{AcceptsBySome}
use Rattle.cert_tables.proofs.EveryLemmas.{every-more, every-whole}
use Rattle.cert_tables.proofs.accepting.accept_by_some.Goals as goal
use Rattle.cert_tables.proofs.accepting.accept_by_some.Goals.{else-line-eq0-via-then-line-eq0+else-not-accepts_by_some, else-line-eq0-via-else-line-eq0}

pub loop-line-preserved : goal.loop-line-preserved
loop-line-preserved c =
    let Alike : SetLine → Type 0 = λ (line : SetLine). line.space ≡ 0 → AcceptsBySome c.args.a.now c.args.a_negated c.args.c.now line in
    let none = c.line-item.result in
    elim c.else-line-eq0.branch [
      | else-line-eq0-via-then-line-eq0+else-not-accepts_by_some w ↦
          every-more Alike c.args.sets.now c.loop-line.line-index none c.loop-line-test.true c.loop-line.invariant
          (subst Alike c.line-item.is (λ here. w.accepts_by_some.ensures.0 w.if-not-accepts_by_some.false))
      | else-line-eq0-via-else-line-eq0 w ↦
          every-more Alike c.args.sets.now c.loop-line.line-index none c.loop-line-test.true c.loop-line.invariant
          (subst Alike c.line-item.is (λ here. absurd (w.if-line-eq0.false here)))
    ]

pub returns : goal.returns
returns c =
    every-whole (λ (line : SetLine). line.space ≡ 0 → AcceptsBySome c.args.a.now c.args.a_negated c.args.c.now line)
    c.args.sets.now c.loop-line.line-index c.loop-line-test.false c.loop-line.invariant
