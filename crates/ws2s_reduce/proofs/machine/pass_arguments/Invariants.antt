use Rattle.std.proofs.Common.{take}
use Rattle.ws2s_reduce.specs.Machines.{IsPassed}
use Rattle.ws2s_reduce.proofs.machine.pass_arguments.Given as goal

abbrev pub invariant-loop-argument : goal.invariant-loop-argument
invariant-loop-argument l = IsPassed l.frame (take l.argument-index l.arguments) l.fn.next l.initial.machine l.after l.machine
