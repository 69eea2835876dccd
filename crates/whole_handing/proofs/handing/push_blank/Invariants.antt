use Rattle.std.proofs.Common.{◌≡◌, ◌++◌, drop, map}
use Rattle.whole_run.specs.Handing.{blank_at}
use Rattle.whole_handing.proofs.handing.push_blank.Given as goal

-- those so far and those that are left
abbrev pub invariant-loop-var : goal.invariant-loop-var
invariant-loop-var l = l.values ++ map (blank_at l.vars) (drop l.var-index l.listed) ≡ l.initial.values ++ map (blank_at l.vars) l.listed
