use Rattle.std.proofs.Common.{◌≡◌, take}
use Rattle.store_logic.proofs.arg.copy_args.Given as goal

-- the copies so far
abbrev pub invariant-loop-arg : goal.invariant-loop-arg
invariant-loop-arg l = l.copy ≡ take l.arg-index l.args
