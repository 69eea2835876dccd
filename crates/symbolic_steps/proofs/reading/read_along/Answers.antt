use Rattle.std.proofs.Common.{refl}
use Rattle.symbolic_steps.proofs.ReadingLemmas.{read-step, read-end}
use Rattle.symbolic_steps.proofs.reading.read_along.Goals as goal

pub loop-field-preserved : goal.loop-field-preserved
loop-field-preserved c = λ line next wanted text s reaches is.
    read-step c.args.l.now.types c.args.l.now.vars line next wanted text s c.loop-field.w c.read.new.w c.args.fields.now c.loop-field.field-index _ _
    c.args.cell c.loop-field.value c.in_ok-value.value refl c.loop-field-test.true (c.loop-field.invariant line next wanted text s reaches is)
    (λ t at. c.in_ok-value.ensures line next wanted text t reaches at)

pub returns : goal.returns
returns c = λ line next wanted text s reaches is.
    read-end c.args.l.now.types c.args.l.now.vars line next wanted text s c.loop-field.w c.args.fields.now c.loop-field.field-index c.args.cell
    c.loop-field.value c.loop-field-test.false (c.loop-field.invariant line next wanted text s reaches is)
