use Rattle.std.proofs.Common.{◌≡◌, ◌++◌, drop, map}
use Rattle.hoare_split.specs.Settings.{setting}
use Rattle.hoare_split.proofs.settings.set_picked.Given as goal

-- those so far and those that are left
abbrev pub invariant-loop-var : goal.invariant-loop-var
invariant-loop-var l = l.items ++ map (setting l.vars l.line) (drop l.var-index l.var-items) ≡ l.initial.items ++ map (setting l.vars l.line) l.var-items
