use Rattle.std.proofs.Common.{◌≡◌, ◌++◌, take, drop, map, not}
use Rattle.gta_core.proofs.auto.flipped.Given as goal

abbrev pub invariant-loop-place : goal.invariant-loop-place
invariant-loop-place l = l.turned ≡ map not (take l.place l.fn.flags) ++ drop l.place l.fn.flags
