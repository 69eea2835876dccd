use Rattle.std.proofs.Common.{◌≡◌, drop}
use Rattle.ws2s_read.specs.Resolving.{all_bound}
use Rattle.ws2s_read.proofs.formulas.bind_names.Given as goal

abbrev pub invariant-loop-name : goal.invariant-loop-name
invariant-loop-name l = all_bound l.outer l.class (drop l.name-index l.bound) l.names ≡ all_bound l.outer l.class l.bound l.fn.names
