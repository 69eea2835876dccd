use Rattle.std.proofs.Common.{◌≡◌, ◌++◌, drop, map}
use Rattle.store_logic.specs.Filling.{filled_arg}
use Rattle.hoare_fill.specs.Putting.{put_for}
use Rattle.hoare_fill.proofs.putting.fill_args.Given as goal

-- those so far and those that are left
abbrev pub invariant-loop-arg : goal.invariant-loop-arg
invariant-loop-arg l = l.filled ++ map (filled_arg (put_for l.puts) 0) (drop l.arg-index l.args) ≡ map (filled_arg (put_for l.puts) 0) l.args
