-- One more reference.
use Rattle.std.proofs.Common.{◌+◌, ◌<◌, List, length, sym, subst, arith}
use Rattle.bdd_nodes.specs.declared.node_ref.NodeRef.{NodeRef}
use Rattle.gta_refine.proofs.NumbersLemmas.{StandBelow, StandBelow-push}
use Rattle.gta_refine.proofs.numbers.references.Goals as goal

pub loop-index-preserved : goal.loop-index-preserved
loop-index-preserved c =
    let classes = c.args.classes.now in
    let refs = c.args.refs.now in
    let listed = c.args.listed.now in
    let index = c.loop-index.index in
    let inside : index < length listed = (let t = c.loop-index-test.true in let a = c.loop-index.auto.index-end in omega arith) in
    subst (λ (rs : List NodeRef). StandBelow classes refs listed rs (index + 1)) (sym c.in_ok-push.ensures.ok)
    (StandBelow-push classes refs listed c.loop-index.references index c.reference.result c.loop-index.invariant inside c.reference.ensures)
