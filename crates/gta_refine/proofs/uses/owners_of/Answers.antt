-- One state after the other.
use Rattle.std.proofs.Common.{◌≡◌, length, sym, subst, arith}
use Rattle.gta_refine.specs.Uses.{AreOwners}
use Rattle.gta_refine.proofs.UsesLemmas.{OwnersBelow, OwnersBelow-none, OwnersBelow-next, AreOwners-all}
use Rattle.gta_refine.proofs.uses.owners_of.Goals as goal

pub loop-state-init : goal.loop-state-init
loop-state-init c =
    OwnersBelow-none c.args.space.now c.args.side c.args.own.now c.args.beside.now c.in_ok-owners.owners.items
    (let m = c.in_ok-owners.ensures.many in let l = c.len.ensures in let o = c.in_ok-owners.owners.ok in omega arith) c.in_ok-owners.ensures.empty

pub loop-state-preserved : goal.loop-state-preserved
loop-state-preserved c =
    OwnersBelow-next c.args.space.now c.args.side c.args.own.now c.args.beside.now c.loop-state.owners.items c.add_owner.new.owners.items
    c.loop-state.state-index c.loop-state.invariant c.loop-state-test.true c.in_ok-add_owner.ensures

pub returns : goal.returns
returns c =
    let space = c.args.space.now in
    let side = c.args.side in
    let own = c.args.own.now in
    let beside = c.args.beside.now in
    let end : c.loop-state.state-index ≡ length own =
    (let t = c.loop-state-test.false in let e = c.loop-state.auto.state-index-end in omega arith) in
    subst (AreOwners space side own beside) (sym c.from_vec.ensures)
    (AreOwners-all space side own beside c.loop-state.owners.items
    (subst (OwnersBelow space side own beside c.loop-state.owners.items) end c.loop-state.invariant))
