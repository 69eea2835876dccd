use Rattle.std.proofs.Common.{sym, ◌∙◌}
use Rattle.bdd_nodes.specs.Shelf.{label_of}
use Rattle.gta_core.proofs.AutoLemmas.{step-some, step-none}
use Rattle.gta_core.proofs.auto.Auto.step.Goals as goal

pub returns-in-Some : goal.returns-in-Some
returns-in-Some c =
    c.eval.ensures.value
    ∙ step-some c.args.shelf.now c.args.self.now c.args.space c.args.left c.args.right (label_of c.args.label.now) c.in-Some.root (sym c.in-Some.ensures.value)

pub returns-in-None : goal.returns-in-None
returns-in-None c =
    step-none c.args.shelf.now c.args.self.now c.args.space c.args.left c.args.right (label_of c.args.label.now) (sym c.in-None.ensures.value)
