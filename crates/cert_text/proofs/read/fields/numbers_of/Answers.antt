use Rattle.std.proofs.Common.{◌+◌, ◌-◌, length, sym, ◌∙◌, arith}
use Rattle.cert_text.proofs.ListsLemmas.{numbers-start, numbers-done, numbers-bad, numbers-stuck, numbers-more}
use Rattle.cert_text.proofs.read.fields.numbers_of.Goals as goal

pub loop-init : goal.loop-init
loop-init c = numbers-start c.args.bytes.now c.new-numbers.result c.new-numbers.ensures

pub returns-then-is_empty : goal.returns-then-is_empty
returns-then-is_empty c =
    numbers-done c.loop.numbers (length c.args.bytes.now - c.loop.counter) c.loop.left.now _ (sym c.is_empty.ensures ∙ c.if-is_empty.true) c.loop.invariant

pub returns-in_default : goal.returns-in_default
returns-in_default c =
    numbers-bad c.loop.numbers (length c.args.bytes.now - c.loop.counter) c.loop.left.now _ (sym c.in_default.ensures) (sym c.is_empty.ensures
    ∙ c.if-is_empty.false)
    c.loop.invariant

pub loop-preserved : goal.loop-preserved
loop-preserved c =
    numbers-more c.loop.numbers _ (length c.args.bytes.now - c.loop.counter) (length c.args.bytes.now - (c.loop.counter + 1)) c.loop.left.now
    c.in-Some.number c.in-Some.others.now _ (omega (arith, c.loop-test.true)) (sym c.in-Some.ensures) c.in_ok-push.ensures.ok c.loop.invariant

pub returns-then-is_empty-2 : goal.returns-then-is_empty-2
returns-then-is_empty-2 c =
    numbers-done c.loop.numbers (length c.args.bytes.now - c.loop.counter) c.loop.left.now _ (sym c.is_empty-2.ensures ∙ c.if-is_empty-2.true) c.loop.invariant

pub returns-else-is_empty-2 : goal.returns-else-is_empty-2
returns-else-is_empty-2 c =
    numbers-stuck c.loop.numbers (length c.args.bytes.now - c.loop.counter) c.loop.left.now _ (omega (arith, c.loop-test.false))
    (sym c.is_empty-2.ensures ∙ c.if-is_empty-2.false) c.loop.invariant
