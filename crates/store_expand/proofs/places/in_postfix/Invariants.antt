use Rattle.std.proofs.Common.{◌≡◌, ◌++◌, map, reverse}
use Rattle.store_logic.specs.Postfix.{postfix_of}
use Rattle.store_logic.specs.Expansion.{expansion}
use Rattle.store_expand.specs.Opening.{form_at}
use Rattle.store_expand.specs.Places.{spot}
use Rattle.store_expand.proofs.StepLemmas.{forms_of, AllRight, steps_left}
use Rattle.store_expand.proofs.places.in_postfix.Given as goal

-- the forms of what is left, and those so far from the last, are those of the whole; and what is left uses predicates rightly
abbrev pub invariant-loop-next : goal.invariant-loop-next
invariant-loop-next l = record {
  whole : forms_of l.preds (map spot l.pending.items) ++ reverse (map form_at (map spot l.places.items)) ≡ postfix_of (expansion l.preds l.assertion);
  right : AllRight l.preds (map spot l.pending.items);
}

abbrev pub decreases-loop-next : goal.decreases-loop-next
decreases-loop-next l = steps_left l.preds (map spot l.pending.items)
