use Rattle.std.proofs.Common.{◌≡◌, drop}
use Rattle.ws2s_read.specs.Resolving.{with_items, nothing}
use Rattle.ws2s_read.proofs.items.resolve.Given as goal

abbrev pub invariant-loop-item : goal.invariant-loop-item
invariant-loop-item l = with_items (drop l.item-index l.source.items) l.stage ≡ with_items l.source.items nothing
