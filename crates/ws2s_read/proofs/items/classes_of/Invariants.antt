use Rattle.std.proofs.Common.{◌≡◌, take}
use Rattle.ws2s_read.specs.Resolving.{classes_of}
use Rattle.ws2s_read.proofs.items.classes_of.Given as goal

abbrev pub invariant-loop-parameter : goal.invariant-loop-parameter
invariant-loop-parameter l = l.classes ≡ classes_of (take l.parameter-index l.parameters)
