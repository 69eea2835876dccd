-- One number more.
use Rattle.std.proofs.Common.{◌≡◌, ◌<◌, length, refl, arith}
use Rattle.gta_refine.proofs.RowsLemmas.{IsHashed-more, IsHashed-all}
use Rattle.gta_refine.proofs.rows.hash_of.Goals as goal

pub loop-other-init : goal.loop-other-init
loop-other-init c = refl

pub loop-other-preserved : goal.loop-other-preserved
loop-other-preserved c =
    let beside = c.args.beside.now in
    let i = c.loop-other.other-index in
    let inside : i < length beside = (let t = c.loop-other-test.true in let e = c.loop-other.auto.other-index-end in omega arith) in
    IsHashed-more c.args.space.now c.args.side c.args.numbers.now c.args.own beside i c.loop-other.hash c.number_of-number.result
    c.add_number-next.result c.loop-other.invariant inside c.number_of-number.ensures c.add_number-next.ensures

pub returns : goal.returns
returns c =
    let beside = c.args.beside.now in
    let end : c.loop-other.other-index ≡ length beside = (let t = c.loop-other-test.false in let e = c.loop-other.auto.other-index-end in omega arith) in
    IsHashed-all c.args.space.now c.args.side c.args.numbers.now c.args.own beside c.loop-other.other-index c.loop-other.hash
    c.loop-other.invariant end
