use Rattle.std.proofs.Common.{◌≡◌, drop}
use Rattle.store_exec.specs.Acting.{acts_of_items, have_assert}
use Rattle.store_runner.proofs.asserting.+items.Given as goal

-- what is left has an `assert` where the whole has one
abbrev pub invariant-find_in_items-loop-item : goal.invariant-find_in_items-loop-item
invariant-find_in_items-loop-item l = have_assert (acts_of_items (drop l.item-index l.items)) ≡ have_assert (acts_of_items l.items)
