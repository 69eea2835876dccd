-- One node more.
use Rattle.std.proofs.Common.{List, [], ◌∷◌, ◌++◌, sym, ◌∙◌, ap, subst, arith}
use Rattle.bdd_nodes.specs.declared.node_ref.NodeRef.{NodeRef}
use Rattle.gta_room.proofs.ProgressLemmas.{Adds-both}
use Rattle.gta_minimise.specs.Renamed.{IsRenamed, AreMade}
use Rattle.gta_minimise.proofs.nodes.make_nodes.Goals as goal

pub returns-in_err-made-clause-adds : goal.returns-in_err-made-clause-adds
returns-in_err-made-clause-adds c =
    Adds-both (IsRenamed c.args.classes.now c.args.nodes.now c.args.marks.now) c.args.shelf.now c.loop-index.shelf c.make_node.new.shelf
    c.loop-index.invariant.adds c.make_node.ensures.adds

pub returns-in_err-push-clause-adds : goal.returns-in_err-push-clause-adds
returns-in_err-push-clause-adds c =
    Adds-both (IsRenamed c.args.classes.now c.args.nodes.now c.args.marks.now) c.args.shelf.now c.loop-index.shelf c.make_node.new.shelf
    c.loop-index.invariant.adds c.make_node.ensures.adds

pub loop-index-preserved : goal.loop-index-preserved
loop-index-preserved c =
    let classes = c.args.classes.now in
    let nodes = c.args.nodes.now in
    let marks = c.args.marks.now in
    record {
      many = let l = c.in_ok-push.ensures.len in let m = c.loop-index.invariant.many in omega arith;
      made = subst (AreMade c.make_node.new.shelf classes nodes marks)
          (ap (λ (refs : List NodeRef). refs ++ c.in_ok-made.made ∷ []) c.deref.ensures.value ∙ sym c.in_ok-push.ensures.items)
          c.in_ok-made.ensures.made;
      adds = Adds-both (IsRenamed classes nodes marks) c.args.shelf.now c.loop-index.shelf c.make_node.new.shelf
          c.loop-index.invariant.adds c.make_node.ensures.adds;
    }
