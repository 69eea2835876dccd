use Rattle.std.proofs.Common.{◌≡◌, drop}
use Rattle.ws2s_read.specs.Resolving.{parameters_bound}
use Rattle.ws2s_read.proofs.formulas.bind_parameters.Given as goal

abbrev pub invariant-loop-parameter : goal.invariant-loop-parameter
invariant-loop-parameter l =
    parameters_bound l.outer (drop l.parameter-index l.parameters) l.names ≡ parameters_bound l.outer l.parameters l.fn.names
