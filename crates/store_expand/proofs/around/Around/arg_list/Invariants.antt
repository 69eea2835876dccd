use Rattle.std.proofs.Common.{◌≡◌, take}
use Rattle.store_expand.specs.Standing.{put_args}
use Rattle.store_expand.specs.Places.{standing}
use Rattle.store_expand.proofs.around.Around.arg_list.Given as goal

-- the arguments so far
abbrev pub invariant-loop-arg : goal.invariant-loop-arg
invariant-loop-arg l = l.put ≡ put_args (standing l.self) (take l.arg-index l.args)
