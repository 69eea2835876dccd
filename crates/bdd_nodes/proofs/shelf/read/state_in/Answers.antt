use Rattle.std.proofs.Common.{sym, ◌∙◌, ap, refl, subst}
use Rattle.bdd_nodes.specs.declared.node_ref.Named.{Named}
use Rattle.bdd_nodes.specs.Nodes.{state_named, node_at, IsNamedIn}
use Rattle.bdd_nodes.specs.Shelf.{label_of}
use Rattle.bdd_nodes.proofs.NodesLemmas.{state_named-leaf}
use Rattle.bdd_nodes.proofs.ReadLemmas.{small-leaf, step-high, step-low}
use Rattle.bdd_nodes.proofs.shelf.read.state_in.Goals as goal

pub returns-in-Leaf-clause-value : goal.returns-in-Leaf-clause-value
returns-in-Leaf-clause-value c =
    sym (state_named-leaf c.args.nodes.now c.in-Leaf.state (label_of c.args.label.now))
    ∙ ap (λ (m : Named). state_named c.args.nodes.now m (label_of c.args.label.now)) c.in-Leaf.ensures
    ∙ c.loop-state.invariant.1

pub returns-in-Leaf-clause-small : goal.returns-in-Leaf-clause-small
returns-in-Leaf-clause-small c = small-leaf c.loop-state.at c.in-Leaf.state (sym c.in-Leaf.ensures)

pub loop-state-preserved-then-contains : goal.loop-state-preserved-then-contains
loop-state-preserved-then-contains c =
    let named = sym c.in-Inner.ensures in
    let step = step-high c.args.nodes.now c.requires.canonical c.loop-state.at c.in-Inner.index named
    (subst (IsNamedIn c.args.nodes.now) named c.loop-state.invariant.0)
    (label_of c.args.label.now) (node_at c.args.nodes.now c.in-Inner.index) refl (sym c.contains.ensures.value ∙ c.if-contains.true) in
    (step.0, step.1 ∙ c.loop-state.invariant.1)

pub loop-state-preserved : goal.loop-state-preserved
loop-state-preserved c =
    let named = sym c.in-Inner.ensures in
    let step = step-low c.args.nodes.now c.requires.canonical c.loop-state.at c.in-Inner.index named
    (subst (IsNamedIn c.args.nodes.now) named c.loop-state.invariant.0)
    (label_of c.args.label.now) (node_at c.args.nodes.now c.in-Inner.index) refl (sym c.contains.ensures.value ∙ c.if-contains.false) in
    (step.0, step.1 ∙ c.loop-state.invariant.1)
