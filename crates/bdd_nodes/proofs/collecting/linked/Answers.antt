use Rattle.std.proofs.Common.{◌∙◌, ap}
use Rattle.bdd_nodes.specs.Collecting.{linked_named}
use Rattle.bdd_nodes.proofs.MarksLemmas.{reference_to-named}
use Rattle.bdd_nodes.proofs.collecting.linked.Goals as goal

pub returns-in-Inner : goal.returns-in-Inner
returns-in-Inner c = reference_to-named c.inner.result _ c.inner.ensures ∙ ap (linked_named c.args.links.now c.args.r) c.in-Inner.ensures
