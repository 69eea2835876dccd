use Rattle.std.proofs.Common.{sym, ◌∙◌, subst}
use Rattle.std.proofs.lemmas.Bool.{false≢true}
use Rattle.cert_text.specs.declared.line.SetLine.{SetLine}
use Rattle.cert_tables.proofs.EveryLemmas.{every-more, every-fails, every-whole}
use Rattle.cert_check.specs.Reached.{Misses}
use Rattle.cert_check.proofs.reached.no_set_says.Goals as goal

pub returns-then-not-misses : goal.returns-then-not-misses
returns-then-not-misses c =
    let Miss : SetLine → Type 0 = λ (l : SetLine). Misses c.args.table.now c.args.is_accepting l.space l.state in
    every-fails Miss c.args.sets.now c.loop-set.set-index c.set-item.result c.loop-set-test.true
    (λ here. false≢true (sym c.if-not-misses.true ∙ c.misses.ensures.1 (subst Miss (sym c.set-item.is) here)))

pub loop-set-preserved : goal.loop-set-preserved
loop-set-preserved c =
    let Miss : SetLine → Type 0 = λ (l : SetLine). Misses c.args.table.now c.args.is_accepting l.space l.state in
    every-more Miss c.args.sets.now c.loop-set.set-index c.set-item.result c.loop-set-test.true c.loop-set.invariant
    (subst Miss c.set-item.is (c.misses.ensures.0 c.if-not-misses.false))

pub returns : goal.returns
returns c =
    every-whole (λ (l : SetLine). Misses c.args.table.now c.args.is_accepting l.space l.state) c.args.sets.now c.loop-set.set-index
    c.loop-set-test.false c.loop-set.invariant
