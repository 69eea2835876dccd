use Rattle.std.proofs.Common.{◌≡◌, ◌++◌, take}
use Rattle.site_list.specs.Sites.{items_sites}
use Rattle.site_list.proofs.codes.+items.Given as goal

-- the sites of the items so far are added
abbrev pub invariant-push_items-loop-item : goal.invariant-push_items-loop-item
invariant-push_items-loop-item l = l.sites ≡ l.initial.sites ++ items_sites l.types (take l.item-index l.items)
