use Rattle.std.proofs.Common.{◌++◌, ap, ◌∙◌, sym, subst}
use Rattle.std.specs.List.Sorted.{IsStrictlySortedBy}
use Rattle.std.specs.Ordering.{nat_cmp}
use Rattle.std.proofs.lemmas.List.{append-nil}
use Rattle.store_core.specs.StoreBodies.{cells_of}
use Rattle.store_text.specs.DraftBodies.{said_cells}
use Rattle.store_text.proofs.DraftLemmas.{numbers_same, in_order}
use Rattle.store_text.proofs.read.draft.bodies_of.Goals as goal

pub returns-clause-rising : goal.returns-clause-rising
returns-clause-rising c =
    let bodies = c.loop-number.bodies.items in
    let same = sym (append-nil (cells_of bodies)) ∙ ap (λ es. cells_of bodies ++ said_cells es) (sym c.in-None.ensures.steps.0) ∙ c.loop-number.invariant.3 in
    in_order bodies (subst (IsStrictlySortedBy nat_cmp) (sym (numbers_same bodies c.args.cells.entries same))
    c.into_iter-number-iterator.ensures.into_iter_gives.5)
