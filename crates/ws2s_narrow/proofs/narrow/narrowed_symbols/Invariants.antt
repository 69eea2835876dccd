use Rattle.std.proofs.Common.{reverse, vec_len}
use Rattle.ws2s_narrow.proofs.NarrowLemmas.{IsHalf}
use Rattle.ws2s_narrow.proofs.narrow.narrowed_symbols.Given as goal

abbrev pub invariant-loop-step : goal.invariant-loop-step
invariant-loop-step l = IsHalf l.formula (reverse l.steps.items) (reverse l.pending.items) (reverse l.symbols.items)

abbrev pub decreases-loop-step : goal.decreases-loop-step
decreases-loop-step l = vec_len l.steps
