use Rattle.std.proofs.Common.{◌≡◌, ◌++◌, drop}
use Rattle.tree_formula.specs.WellEncoded.{are_apart}
use Rattle.tree_apart.specs.Apart.{pairs}
use Rattle.tree_apart.proofs.apart.push_pairs.Given as goal

-- what is left of the pairs is of the variants from this place on
abbrev pub invariant-loop-place : goal.invariant-loop-place
invariant-loop-place l = l.parts.items ++ pairs (are_apart l.fn.next l.l.types) (drop l.place l.variants)
    ≡ l.initial.parts.items ++ pairs (are_apart l.fn.next l.l.types) l.variants
