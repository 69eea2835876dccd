-- One node more.
use Rattle.std.proofs.Common.{◌≡◌, ◌+◌, ◌<◌, List, length, sym, ◌∙◌, subst, arith}
use Rattle.bdd_nodes.specs.declared.node_ref.NodeRef.{NodeRef}
use Rattle.bdd_nodes.specs.Shelf.{count_of}
use Rattle.bdd_nodes.specs.Changes.{is_valid}
use Rattle.bdd_list.specs.Listing.{node_at}
use Rattle.gta_refine.specs.Numbered.{AreNumbered}
use Rattle.gta_refine.proofs.NumbersLemmas.{AreNumbered-push, numbered-at, count-if, IsSideFor-stands}
use Rattle.gta_refine.proofs.numbers.number_nodes.Goals as goal

pub make-requires-clause-low : goal.make-requires-clause-low
make-requires-clause-low c =
    let old = c.loop-index.shelf in
    let classes = c.args.classes.now in
    let nodes = c.args.nodes.now in
    let index = c.loop-index.index in
    let inside : index < length nodes = (let t = c.loop-index-test.true in let a = c.loop-index.auto.index-end in omega arith) in
    let numbered : AreNumbered old classes nodes c.deref.result.now = subst (λ (rs : List NodeRef). AreNumbered old classes nodes rs)
    (sym c.deref.ensures.value) c.loop-index.invariant.numbered in
    IsSideFor-stands old classes nodes index (node_at nodes index).track (node_at nodes index).low c.reference-low.result
    (c.requires.ordered.low index inside) (c.reference-low.ensures old nodes (numbered-at old classes nodes c.deref.result.now numbered _))

pub make-requires-clause-high : goal.make-requires-clause-high
make-requires-clause-high c =
    let old = c.loop-index.shelf in
    let classes = c.args.classes.now in
    let nodes = c.args.nodes.now in
    let index = c.loop-index.index in
    let inside : index < length nodes = (let t = c.loop-index-test.true in let a = c.loop-index.auto.index-end in omega arith) in
    let numbered : AreNumbered old classes nodes c.deref-in-loop-index.result.now =
    subst (λ (rs : List NodeRef). AreNumbered old classes nodes rs) (sym c.deref-in-loop-index.ensures.value) c.loop-index.invariant.numbered in
    IsSideFor-stands old classes nodes index (node_at nodes index).track (node_at nodes index).high c.reference-high.result
    (c.requires.ordered.high index inside)
    (c.reference-high.ensures old nodes (numbered-at old classes nodes c.deref-in-loop-index.result.now numbered _))

pub loop-index-preserved : goal.loop-index-preserved
loop-index-preserved c =
    let old = c.loop-index.shelf in
    let new = c.make.new.self in
    let classes = c.args.classes.now in
    let nodes = c.args.nodes.now in
    let refs = c.loop-index.refs.items in
    let index = c.loop-index.index in
    let inv = c.loop-index.invariant in
    let e = c.in-Ok.ensures in
    let made = c.in-Ok.made in
    let many : length refs ≡ index = (let v = c.loop-index.refs.ok.0 in let m = inv.many in omega arith) in
    let inside : index < length nodes = (let t = c.loop-index-test.true in let a = c.loop-index.auto.index-end in omega arith) in
    let numbered_low : AreNumbered old classes nodes c.deref.result.now = subst (λ (rs : List NodeRef). AreNumbered old classes nodes rs)
    (sym c.deref.ensures.value) inv.numbered in
    let numbered_high : AreNumbered old classes nodes c.deref-in-loop-index.result.now =
    subst (λ (rs : List NodeRef). AreNumbered old classes nodes rs) (sym c.deref-in-loop-index.ensures.value) inv.numbered in
    record {
      is_shelf = e.shelf;
      count =
          let start = count_of c.args.shelf.now in
          let next = count-if (is_valid old made) (count_of old) (start + index) (count_of new) inv.count e.count in
          omega arith;
      limit = e.limit ∙ inv.limit;
      many = let l = c.in_ok-push.ensures.len in let m = inv.many in omega arith;
      numbered = subst (λ (rs : List NodeRef). AreNumbered new classes nodes rs) (sym c.in_ok-push.ensures.items)
          (AreNumbered-push old new classes nodes c.requires.ordered index inside c.reference-low.result c.reference-high.result made
          (c.reference-low.ensures old nodes (numbered-at old classes nodes c.deref.result.now numbered_low _))
          (c.reference-high.ensures old nodes (numbered-at old classes nodes c.deref-in-loop-index.result.now numbered_high _))
          e.valid e.value e.later refs inv.numbered many e.kept);
    }
