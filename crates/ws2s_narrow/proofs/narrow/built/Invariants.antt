use Rattle.std.proofs.Common.{◌≡◌, [], reverse, vec_len}
use Rattle.ws2s_core.specs.Postfix.{run_on}
use Rattle.ws2s_narrow.proofs.narrow.built.Given as goal

abbrev pub invariant-loop-symbol : goal.invariant-loop-symbol
invariant-loop-symbol l = run_on (reverse l.symbols.items) (reverse l.parts.items) ≡ run_on (reverse l.fn.symbols.items) []

abbrev pub decreases-loop-symbol : goal.decreases-loop-symbol
decreases-loop-symbol l = vec_len l.symbols
