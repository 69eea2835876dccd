-- What waits first is looked at.
use Rattle.std.proofs.Common.{◌≡◌, ◌+◌, [], Option, Some, None, sym, ap, ◌∙◌, arith}
use Rattle.std.proofs.lemmas.Bool.{false≢true}
use Rattle.std.specs.BinaryHeap.{heap_items}
use Rattle.gta_witness.specs.declared.goal.Found.{Found}
use Rattle.gta_witness.specs.declared.relax.Search.{Search}
use Rattle.gta_witness.specs.Rules.{key}
use Rattle.gta_witness.specs.Searching.{weighs_in, found_by}
use Rattle.gta_witness.proofs.EndingLemmas.{turns-fewer, nearer}
use Rattle.gta_witness.proofs.SettleLemmas.{over-none, stale-running, first-taken, first-ahead, none-nearer, no-elements}
use Rattle.gta_witness.proofs.search.advance.Goals as goal

same-found : (o : Option Found) (a b : Found) → o ≡ Some a → Some b ≡ o → a ≡ b
same-found o a b one other = let e : Some a ≡ Some b = sym one ∙ sym other in cc

pub returns-in_default-clause-stands : goal.returns-in_default-clause-stands
returns-in_default-clause-stands c =
    let now = c.requires.running.0 in
    let running = c.requires.running.1 in
    let empty : heap_items c.args.search.now.queue ≡ [] =
    no-elements (heap_items c.args.search.now.queue) (let v = c.args.search.now.queue.data.ok.0 in let n = c.in_default.ensures.none in omega arith) in
    over-none c.args.form.now (weighs_in c.args.weighed.now) now c.args.lines.now c.args.search.now running empty

pub returns-in_default-at-clause-stands : goal.returns-in_default-at-clause-stands
returns-in_default-at-clause-stands c =
    let now = c.requires.running.0 in
    let running = c.requires.running.1 in
    let new : Search = record { found = c.args.search.now.found; queue = c.pop.new.self } in
    let order = c.in-Some.ensures.heap_order running.is_search.heap in (
      now,
      stale-running c.args.form.now (weighs_in c.args.weighed.now) now c.args.lines.now c.args.search.now new c.in-Some.first running
          (λ i. c.args.search.now.found)
          c.in-Some.ensures.permutation order.0 (λ e there unsettled near. let none : None ≡ Some e = c.in_default-at.ensures ∙ there in absurd cc),
    )

pub returns-then-found-clause-stands : goal.returns-then-found-clause-stands
returns-then-found-clause-stands c =
    let now = c.requires.running.0 in
    let running = c.requires.running.1 in
    let new : Search = record { found = c.args.search.now.found; queue = c.pop.new.self } in
    let order = c.in-Some.ensures.heap_order running.is_search.heap in (
      now,
      stale-running c.args.form.now (weighs_in c.args.weighed.now) now c.args.lines.now c.args.search.now new c.in-Some.first running
          (λ i. c.args.search.now.found)
          c.in-Some.ensures.permutation order.0 (λ e there unsettled near.
          let same : e ≡ c.in-Some-at.found = same-found (found_by c.args.search.now c.in-Some.first.goal) e c.in-Some-at.found there c.in-Some-at.ensures in
          false≢true (sym unsettled ∙ ap (λ (x : Found). x.is_settled) same ∙ c.if-found.true)),
    )

pub returns-then-key-first-clause-stands : goal.returns-then-key-first-clause-stands
returns-then-key-first-clause-stands c =
    let now = c.requires.running.0 in
    let running = c.requires.running.1 in
    let new : Search = record { found = c.args.search.now.found; queue = c.pop.new.self } in
    let order = c.in-Some.ensures.heap_order running.is_search.heap in (
      now,
      stale-running c.args.form.now (weighs_in c.args.weighed.now) now c.args.lines.now c.args.search.now new c.in-Some.first running
          (λ i. c.args.search.now.found)
          c.in-Some.ensures.permutation order.0 (λ e there unsettled near.
          let same : e ≡ c.in-Some-at.found = same-found (found_by c.args.search.now c.in-Some.first.goal) e c.in-Some-at.found there c.in-Some-at.ensures in
          let weight : key e.weight ≡ key c.in-Some-at.found.weight = ap (λ (x : Found). key x.weight) same in
          let is_key = c.key.ensures in
          let other = c.if-key-first.true in
          absurd (omega arith)),
    )

pub settle_goal-requires-clause-taken : goal.settle_goal-requires-clause-taken
settle_goal-requires-clause-taken c =
    let now = c.requires.running.0 in
    let running = c.requires.running.1 in
    let new : Search = record { found = c.args.search.now.found; queue = c.pop.new.self } in
    let order = c.in-Some.ensures.heap_order running.is_search.heap in
    let form = c.args.form.now in
    let weighs = weighs_in c.args.weighed.now in
    let ahead = first-ahead form weighs now c.args.lines.now c.args.search.now new c.in-Some.first running (λ i. c.args.search.now.found)
    c.in-Some.ensures.permutation order.0 in
    let near : c.in-Some.first.nearness + key c.in-Some-at.found.weight ≡ 340282366920938463463374607431768211455 =
    (let is_key = c.key.ensures in let e = c.if-key-first.false in omega arith) in
    first-taken form weighs now c.args.lines.now c.args.search.now new c.in-Some.first running (λ i. c.args.search.now.found)
    c.in-Some.ensures.permutation order.0 c.in-Some-at.found (sym c.in-Some-at.ensures) c.if-found.false near
    (none-nearer c.in-Some.first (heap_items c.pop.new.self) (c.in-Some.ensures.below_top running.is_search.heap))

pub returns-in_default-at-clause-nearer : goal.returns-in_default-at-clause-nearer
returns-in_default-at-clause-nearer c =
    let new : Search = record { found = c.args.search.now.found; queue = c.pop.new.self } in
    turns-fewer c.args.search.now new (λ i. c.args.search.now.found) c.in-Some.ensures.len

pub returns-then-found-clause-nearer : goal.returns-then-found-clause-nearer
returns-then-found-clause-nearer c =
    let new : Search = record { found = c.args.search.now.found; queue = c.pop.new.self } in
    turns-fewer c.args.search.now new (λ i. c.args.search.now.found) c.in-Some.ensures.len

pub returns-then-key-first-clause-nearer : goal.returns-then-key-first-clause-nearer
returns-then-key-first-clause-nearer c =
    let new : Search = record { found = c.args.search.now.found; queue = c.pop.new.self } in
    turns-fewer c.args.search.now new (λ i. c.args.search.now.found) c.in-Some.ensures.len

pub returns-clause-nearer : goal.returns-clause-nearer
returns-clause-nearer c =
    let new : Search = record { found = c.args.search.now.found; queue = c.pop.new.self } in
    nearer c.settle_goal.result _ _ _ c.settle_goal.ensures.fewer (turns-fewer c.args.search.now new (λ i. c.args.search.now.found) c.in-Some.ensures.len)
