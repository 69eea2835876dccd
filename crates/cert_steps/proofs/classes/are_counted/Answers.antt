use Rattle.std.proofs.Common.{◌∙◌}
use Rattle.std.proofs.lemmas.Bool.{false≢true}
use Rattle.cert_steps.proofs.ClassesLemmas.{count-next, counted-next, counted-fails}
use Rattle.cert_steps.proofs.classes.are_counted.Goals as goal

pub returns-then-class-count : goal.returns-then-class-count
returns-then-class-count c = (
  λ says. absurd (false≢true says),
  λ are. absurd (counted-fails c.args.classes.now c.loop-class.class-index c.loop-class.count c.loop-class-test.true c.loop-class.invariant.0
      c.if-class-count.true are),
)

pub loop-class-preserved : goal.loop-class-preserved
loop-class-preserved c = (
  c.count_with-count.ensures
      ∙ count-next c.args.classes.now c.loop-class.class-index c.loop-class.count c.loop-class-test.true c.loop-class.invariant.0,
  counted-next c.args.classes.now c.loop-class.class-index c.loop-class.count c.loop-class-test.true c.loop-class.invariant.1
      c.loop-class.invariant.0 c.if-class-count.false,
)
