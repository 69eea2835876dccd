use Rattle.std.proofs.Common.{◌≡◌, ◌++◌, take, codes}
use Rattle.std.specs.List.{flat_map}
use Rattle.store_text.specs.StoreText.{cell_text}
use Rattle.trace_text.proofs.places.push_members.Given as goal

-- the members so far, each after a space
abbrev pub invariant-loop-cell : goal.invariant-loop-cell
invariant-loop-cell l = l.text.items ≡ l.initial.text.items ++ flat_map (λ cell. codes " " ++ cell_text cell) (take l.cell-index l.others)
