use Rattle.std.proofs.Common.{◌≡◌, take}
use Rattle.ws2s_decide.proofs.decider.copy_of.Given as goal

abbrev pub invariant-loop-space : goal.invariant-loop-space
invariant-loop-space l = l.children ≡ take l.space l.g
