-- One state more of the other child.
use Rattle.std.proofs.Common.{◌<◌, length, sym, subst, arith}
use Rattle.std.specs.Prelude.{slice_index}
use Rattle.bdd_list.specs.declared.listing.Listed.{Listed}
use Rattle.gta_reach.specs.Exploring.{GivesGenerated}
use Rattle.gta_reach.proofs.ExploreLemmas.{has_root-generated, GivesGenerated-root}
use Rattle.gta_reach.proofs.explore.meet_each.Goals as goal

pub listed_of-requires : goal.listed_of-requires
listed_of-requires c =
    let beside = c.args.beside.now in
    let i = c.loop-other.other-index in
    let inside : i < length beside = (let t = c.loop-other-test.true in let e = c.loop-other.auto.other-index-end in omega arith) in
    has_root-generated c.args.form.now c.args.parent c.space-space.result.now c.space-space.ensures c.requires.form c.args.side c.args.state
    (slice_index beside i) c.requires.state (c.requires.beside i 0 inside)

pub loop-other-preserved : goal.loop-other-preserved
loop-other-preserved c =
    let form = c.args.form.now in
    let beside = c.args.beside.now in
    let i = c.loop-other.other-index in
    let inside : i < length beside = (let t = c.loop-other-test.true in let e = c.loop-other.auto.other-index-end in omega arith) in
    record {
      met = c.in_ok-meet.ensures.met form c.loop-other.invariant.met
          (subst (λ (listed : Listed). GivesGenerated form c.args.parent listed) (sym c.listed_of.ensures)
          (GivesGenerated-root form c.args.parent c.space-space.result.now c.space-space.ensures c.requires.form c.args.side c.args.state
          (slice_index beside i) c.requires.state (c.requires.beside i 0 inside)));
      left = let l = c.in_ok-meet.ensures.left in let before = c.loop-other.invariant.left in omega arith;
    }
