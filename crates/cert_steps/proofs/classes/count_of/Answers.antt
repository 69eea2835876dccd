use Rattle.std.proofs.Common.{◌∙◌}
use Rattle.cert_steps.proofs.ClassesLemmas.{count-next, count-whole}
use Rattle.cert_steps.proofs.classes.count_of.Goals as goal

pub loop-class-preserved : goal.loop-class-preserved
loop-class-preserved c =
    c.count_with-count.ensures
    ∙ count-next c.args.classes.now c.loop-class.class-index c.loop-class.count c.loop-class-test.true c.loop-class.invariant

pub returns : goal.returns
returns c = count-whole c.args.classes.now c.loop-class.class-index c.loop-class.count c.loop-class-test.false c.loop-class.invariant
