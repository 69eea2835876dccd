use Rattle.std.proofs.Common.{◌≡◌, ◌++◌, take}
use Rattle.triple_judge.specs.Spares.{made_in_items}
use Rattle.triple_judge.proofs.making.+items.Given as goal

-- those of the items so far are added
abbrev pub invariant-push_items-loop-item : goal.invariant-push_items-loop-item
invariant-push_items-loop-item l = l.spares ≡ l.initial.spares ++ made_in_items (take l.item-index l.items)
