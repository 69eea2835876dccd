use Rattle.std.proofs.Common.{◌≡◌, ◌++◌, drop, map}
use Rattle.whole_run.specs.Handing.{handed_value}
use Rattle.whole_handing.proofs.handing.push_handed.Given as goal

-- those so far and those that are left
abbrev pub invariant-loop-actual : goal.invariant-loop-actual
invariant-loop-actual l = l.values ++ map (handed_value l.store l.cells) (drop l.actual-index l.actuals)
    ≡ l.initial.values ++ map (handed_value l.store l.cells) l.actuals
