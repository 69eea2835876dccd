use Rattle.std.proofs.Common.{◌≡◌, take, map}
use Rattle.gta_refine.specs.Refined.{bit_of}
use Rattle.gta_refine.proofs.rounds.bits.Given as goal

abbrev pub invariant-loop-is_accepting : goal.invariant-loop-is_accepting
invariant-loop-is_accepting l = l.bits.items ≡ map bit_of (take l.is_accepting-index l.accepting)
