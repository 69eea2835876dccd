use Rattle.std.proofs.Common.{◌≡◌, ◌++◌, take}
use Rattle.std.specs.List.{flat_map, zip}
use Rattle.store_text.specs.StoreText.{var_line}
use Rattle.store_text.proofs.writer.push_vars.Given as goal

-- the lines of the variables so far
abbrev pub invariant-loop-index : goal.invariant-loop-index
invariant-loop-index l = l.text.items ≡ l.initial.text.items ++ flat_map (λ v. var_line v.0.name v.1) (take l.index (zip l.vars l.values))
