use Rattle.std.proofs.Common.{◌≡◌, ◌++◌, map, reverse, flat_map, sum_by}
use Rattle.ws2s_core.specs.Postfix.{postfix_of}
use Rattle.ws2s_core.specs.Sizes.{node_count}
use Rattle.ws2s_core.proofs.postfix.symbols_of.Given as goal

abbrev pub invariant-loop-next : goal.invariant-loop-next
invariant-loop-next l =
    flat_map postfix_of (map (λ part. part.now) l.pending.items) ++ reverse l.symbols.items ≡ postfix_of l.formula

abbrev pub decreases-loop-next : goal.decreases-loop-next
decreases-loop-next l = sum_by node_count (map (λ part. part.now) l.pending.items)
