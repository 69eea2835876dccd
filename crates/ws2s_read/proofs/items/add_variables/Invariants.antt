use Rattle.std.proofs.Common.{◌≡◌, drop}
use Rattle.ws2s_read.specs.Resolving.{with_variables}
use Rattle.ws2s_read.proofs.items.add_variables.Given as goal

abbrev pub invariant-loop-name : goal.invariant-loop-name
invariant-loop-name l = with_variables l.class (drop l.name-index l.names) l.stage ≡ with_variables l.class l.names l.fn.stage
