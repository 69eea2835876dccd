-- One state beside after the other.
use Rattle.std.proofs.Common.{◌≡◌, ℕ, length, ◌∙◌, subst, arith}
use Rattle.std.specs.Prelude.{slice_index}
use Rattle.gta_classes.specs.Lists.{IsAdded}
use Rattle.gta_reach.specs.Sides.{cell_at}
use Rattle.gta_refine.proofs.UsesLemmas.{OwnerBelow, OwnerBelow-next, AddsOwner-all}
use Rattle.gta_refine.proofs.uses.add_owner.Goals as goal

pub loop-state-preserved : goal.loop-state-preserved
loop-state-preserved c =
    let space = c.args.space.now in
    let side = c.args.side in
    let own = c.args.own in
    let beside = c.args.beside.now in
    let old = c.args.owners.now.items in
    let now = c.loop-state.owners.items in
    let new = c.add_at.new.lists.items in
    let at = c.loop-state.state-index in
    let root : c.in_ok-root.root ≡ cell_at space side own (slice_index beside at) = c.in_ok-root.ensures ∙ c.cell_of.ensures.value in
    OwnerBelow-next space side own beside old now new at c.loop-state.invariant c.loop-state-test.true
    (let w = c.cell_of.ensures.within in let v = c.cell_of.ensures.value in let m = c.requires.many in let k = c.loop-state.invariant.many in
    let o = c.args.owners.now.ok in omega arith)
    (subst (λ (k : ℕ). IsAdded now k own new) root c.in_ok-add_at.ensures)

pub returns : goal.returns
returns c =
    let beside = c.args.beside.now in
    let end : c.loop-state.state-index ≡ length beside =
    (let t = c.loop-state-test.false in let e = c.loop-state.auto.state-index-end in omega arith) in
    AddsOwner-all c.args.space.now c.args.side c.args.own beside c.args.owners.now.items c.loop-state.owners.items
    (subst (OwnerBelow c.args.space.now c.args.side c.args.own beside c.args.owners.now.items c.loop-state.owners.items) end c.loop-state.invariant)
