use Rattle.std.proofs.Common.{◌≤◌, length, sym, ap, ◌∙◌, arith}
use Rattle.std.proofs.lemmas.Bool.{le-leb}
use Rattle.std.proofs.lemmas.List.{drop_all}
use Rattle.ws2s_read.specs.Resolving.{with_items}
use Rattle.ws2s_read.proofs.ResolvedLemmas.{items_checked}
use Rattle.ws2s_read.proofs.items.resolve.Goals as goal

pub new-requires-5 : goal.new-requires-5
new-requires-5 c =
    let items = c.args.source.now.items in
    let stage = c.loop-item.stage in
    let over : length items ≤ c.loop-item.item-index = omega (arith, ap length c.as_slice-item-items.ensures) in
    let few : length stage.free ≤ 2147483648 = omega (arith, c.len.ensures, ap length c.free.view_is) in
    record {
      names = items_checked items stage
          (sym c.loop-item.invariant ∙ ap (λ rest. with_items rest stage) (drop_all c.loop-item.item-index items over));
      few = le-leb _ _ few;
    }
