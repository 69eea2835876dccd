-- A lower weight is put in.
use Rattle.std.proofs.Common.{◌≡◌, ◌-◌, ◌+◌, refl, arith}
use Rattle.gta_witness.specs.declared.goal.Waiting.{Waiting}
use Rattle.gta_witness.specs.declared.relax.Search.{Search}
use Rattle.gta_witness.specs.Rules.{key}
use Rattle.gta_witness.proofs.SearchLemmas.{put-GoesOn, put-covered}
use Rattle.gta_witness.proofs.relax.put.Goals as goal

pub returns : goal.returns
returns c = λ form weighs now is ahead higher justified.
    let old = c.args.search.now in
    let weight = c.args.weight in
    let waiting : Waiting = record { nearness = 340282366920938463463374607431768211455 - c.key.result; goal = c.args.goal } in
    let near : (340282366920938463463374607431768211455 - c.key.result) + key weight ≡ 340282366920938463463374607431768211455 =
    (let f = c.key.auto in let e = c.key.ensures in omega arith) in
    let heap = c.in_ok-push.ensures.heap_order is.heap in
    let new : Search = record { found = c.insert.new.self; queue = c.push.new.self } in (
      put-GoesOn form weighs now old new c.args.goal weight c.args.reason waiting is ahead higher justified refl near
          c.in_ok-insert.ensures.updates c.in_ok-push.ensures.permutation heap,
      put-covered form weighs now old new c.args.goal weight c.args.reason waiting is ahead higher justified refl near
          c.in_ok-insert.ensures.updates c.in_ok-push.ensures.permutation heap,
    )
