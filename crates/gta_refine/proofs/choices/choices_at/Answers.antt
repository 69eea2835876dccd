-- What is reached now are the values.
use Rattle.gta_reach.specs.declared.sides.Side.TheVariants.{Left, Right}
use Rattle.gta_refine.proofs.ChoicesLemmas.{chosen-values}
use Rattle.gta_refine.proofs.choices.choices_at.Goals as goal

pub returns-clause-left : goal.returns-clause-left
returns-clause-left c = λ space at.
    chosen-values c.args.form.now c.requires.form c.args.spaces.now c.requires.partition c.args.s space at Left c.in_ok-left.left.items
    (c.in_ok-left.ensures space at)

pub returns-clause-right : goal.returns-clause-right
returns-clause-right c = λ space at.
    chosen-values c.args.form.now c.requires.form c.args.spaces.now c.requires.partition c.args.s space at Right c.in_ok-right.right.items
    (c.in_ok-right.ensures space at)
