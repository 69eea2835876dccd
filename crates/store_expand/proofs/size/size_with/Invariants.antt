use Rattle.std.proofs.Common.{◌≡◌, ◌+◌, ◌≤◌, map}
use Rattle.std.specs.List.{AllByRecursion}
use Rattle.store_logic.specs.ExpandingSizes.{sized, total_size}
use Rattle.store_expand.specs.Counting.{counted}
use Rattle.store_expand.proofs.SizeLemmas.{CountsOften, forms_left}
use Rattle.store_expand.proofs.size.size_with.Given as goal

-- the size so far and that of the assertions that are left are the assertion's
abbrev pub invariant-loop-next : goal.invariant-loop-next
invariant-loop-next l = record {
  whole : l.size + total_size l.sizes (map counted l.pending.items) ≡ sized l.sizes l.assertion;
  small : l.size ≤ 65536;
  often : AllByRecursion CountsOften (map counted l.pending.items);
}

abbrev pub decreases-loop-next : goal.decreases-loop-next
decreases-loop-next l = forms_left (map counted l.pending.items)
