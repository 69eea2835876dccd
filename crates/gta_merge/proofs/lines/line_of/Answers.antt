-- One root more.
use Rattle.std.proofs.Common.{◌≡◌, ◌+◌, ◌<◌, List, length, map, take, sym, ◌∙◌, subst, arith}
use Rattle.std.specs.Prelude.{All}
use Rattle.std.proofs.lemmas.List.Elements.{All-push}
use Rattle.bdd_nodes.specs.declared.node_ref.NodeRef.{NodeRef}
use Rattle.bdd_nodes.specs.Shelf.{IsValid}
use Rattle.gta_merge.specs.Lines.{some_root, root_beside}
use Rattle.gta_merge.proofs.ListsLemmas.{line-more}
use Rattle.gta_merge.proofs.lines.line_of.Goals as goal

pub loop-other-preserved : goal.loop-other-preserved
loop-other-preserved c =
    let others = c.args.others.now in
    let i = c.loop-other.other-index in
    let root = root_beside c.args.shelf.now c.args.a.now c.args.space c.args.side c.args.state in
    let inside : i < length others = (let t = c.loop-other-test.true in let e = c.loop-other.auto.other-index-end in omega arith) in
    record {
      items = subst (λ (rs : List NodeRef). map some_root rs ≡ map root (take (i + 1) others)) (sym c.in_ok-push.ensures.items)
          (line-more root others i c.loop-other.line.items c.in-Some.root inside c.loop-other.invariant.items
          (sym c.root_beside.ensures.value ∙ c.in-Some.is));
      valid = subst (All (IsValid c.args.shelf.now)) (sym c.in_ok-push.ensures.items)
          (All-push (IsValid c.args.shelf.now) c.loop-other.line.items c.in-Some.root c.loop-other.invariant.valid c.in-Some.ensures.valid);
    }
