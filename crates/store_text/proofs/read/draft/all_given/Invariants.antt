use Rattle.std.proofs.Common.{◌≡◌, ◌++◌}
use Rattle.std.specs.Option.{option_map}
use Rattle.std.specs.Vec.Iter.{into_iter_items}
use Rattle.store_text.specs.Spelling.{all_of}
use Rattle.store_text.proofs.read.draft.all_given.Given as goal

abbrev pub invariant-loop-value : goal.invariant-loop-value
invariant-loop-value l =
    (goal.iterator-loop-value).can_next l.value-iterator × (goal.iterator-loop-value).is_finite l.value-iterator
    × (option_map (λ rest. l.values ++ rest) (all_of (λ x. x) (into_iter_items l.value-iterator)) ≡ all_of (λ x. x) l.fn.vars)
