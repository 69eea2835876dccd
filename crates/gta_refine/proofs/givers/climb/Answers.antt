-- What is above, one after the other.
use Rattle.std.proofs.Common.{◌≡◌, ◌<◌, ℕ, List, length, sym, ◌∙◌, ap, subst, arith}
use Rattle.std.specs.Prelude.{Contains, slice_index_or}
use Rattle.std.proofs.lemmas.List.{get_or_default}
use Rattle.bdd_list.specs.declared.listing.Listed.{Listed}
use Rattle.bdd_list.specs.declared.listing.Listed.TheVariants.{Leaf, Inner}
use Rattle.gta_refine.specs.Uses.{above_of}
use Rattle.gta_refine.specs.Givers.{AddsNodes}
use Rattle.gta_refine.proofs.ClimbLemmas.{Climbs, Climbs-start, Climbs-step, AreClimbed-all}
use Rattle.gta_classes.proofs.MarksLemmas.{IsClear-none}
use Rattle.gta_refine.proofs.givers.climb.Goals as goal

pub loop-at-init : goal.loop-at-init
loop-at-init c =
    let nodes = c.args.nodes.now in
    let states = c.args.states.now in
    let leaves = c.args.parents.now.leaves in
    let above = c.args.parents.now.nodes in
    subst (λ (list : List Listed). Climbs nodes states leaves above c.args.found.now.items list 0) (sym c.in_ok-list.ensures)
    (Climbs-start nodes states leaves above c.args.found.now.items c.requires.clear)

pub returns-clause-climbed : goal.returns-clause-climbed
returns-clause-climbed c =
    AreClimbed-all c.args.nodes.now c.args.states.now c.args.parents.now.leaves c.args.parents.now.nodes c.requires.ordered c.requires.parents
    c.loop-at.found.items c.loop-at.list.items c.loop-at.at c.loop-at.invariant
    (let t = c.loop-at-test.false in let e = c.len.ensures in let o = c.loop-at.list.ok in omega arith) c.requires.states c.requires.nodes

pub returns-clause-clear : goal.returns-clause-clear
returns-clause-clear c = IsClear-none c.unmark_nodes.new.marks.items (λ i marked.
    let was = c.unmark_nodes.ensures i marked in
    was.1 (subst (λ (xs : List Listed). Contains xs (Inner i)) (sym c.deref.ensures.value) (c.loop-at.invariant.marks i was.0)))

pub loop-at-preserved : goal.loop-at-preserved
loop-at-preserved c =
    let leaves = c.args.parents.now.leaves in
    let above = c.args.parents.now.nodes in
    let list = c.loop-at.list.items in
    let at = c.loop-at.at in
    let inside : at < length list = (let t = c.loop-at-test.true in let e = c.len.ensures in let o = c.loop-at.list.ok in omega arith) in
    let read : c.index.result.now ≡ slice_index_or list at (Leaf 0) =
    c.index.ensures ∙ sym (get_or_default list at (Leaf 0) c.index.result.now inside) in
    Climbs-step c.args.nodes.now c.args.states.now leaves above c.requires.ordered c.requires.parents c.loop-at.found.items c.add_nodes.new.found.items list
    c.add_nodes.new.list.items at c.loop-at.invariant inside
    (subst (λ (xs : List ℕ). AddsNodes xs c.loop-at.found.items list c.add_nodes.new.found.items c.add_nodes.new.list.items)
    (c.of.ensures ∙ ap (above_of leaves above) read) c.in_ok-add_nodes.ensures)
