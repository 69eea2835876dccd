use Rattle.std.proofs.Common.{◌≡◌, min, take}
use Rattle.std.specs.List.{sum_by}
use Rattle.ws2s_reduce.specs.Sizes.{argument_size}
use Rattle.ws2s_reduce.proofs.size.size_of_arguments.Given as goal

abbrev pub invariant-loop-argument : goal.invariant-loop-argument
invariant-loop-argument l = l.size ≡ min (sum_by argument_size (take l.argument-index l.arguments)) 65537
