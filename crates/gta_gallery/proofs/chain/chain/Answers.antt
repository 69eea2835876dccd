-- One more reference.
use Rattle.std.proofs.Common.{◌∷◌, [], List, length, sym, subst, ap, ◌∙◌, arith, length-append}
use Rattle.bdd_nodes.specs.declared.node_ref.NodeRef.{NodeRef}
use Rattle.gta_gallery.specs.Functions.{GoTo}
use Rattle.gta_gallery.proofs.GoingLemmas.{GoTo-push}
use Rattle.gta_gallery.proofs.chain.chain.Goals as goal

pub loop-state-preserved : goal.loop-state-preserved
loop-state-preserved c =
    let more = c.in_ok-push-2.ensures.ok in
    let many = c.loop-state.invariant.many in
    record {
      many = ap length more ∙ length-append c.loop-state.refs (c.in_ok-made.made ∷ []) ∙ (omega arith);
      go = subst (λ (refs : List NodeRef). GoTo c.choice.new.shelf c.args.states refs) (sym more)
          (GoTo-push c.loop-state.shelf c.choice.new.shelf c.args.states c.loop-state.refs c.in_ok-made.made c.in_ok-made.ensures.kept
          (let s = c.loop-state.auto.state in omega arith) c.loop-state.invariant.go c.in_ok-made.ensures.goes);
      shelf = c.in_ok-made.ensures.shelf;
    }
