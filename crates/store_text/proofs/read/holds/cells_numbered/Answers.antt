use Rattle.std.proofs.Common.{◌++◌, ap, ◌∙◌, sym, subst}
use Rattle.store_core.specs.CellLists.{AreRising}
use Rattle.store_text.specs.Saying.{cells_numbered}
use Rattle.store_text.proofs.SayingLemmas.{rising_keys, below_middle}
use Rattle.store_text.proofs.read.holds.cells_numbered.Goals as goal

pub push-requires : goal.push-requires
push-requires c =
    let whole = ap (λ ns. c.loop-number.cells ++ cells_numbered ns) (sym c.in-Some.ensures.steps) ∙ c.loop-number.invariant.2 in
    below_middle c.loop-number.cells (record { 0 = c.in-Some.number.now }) (cells_numbered c.next.new.self)
    (subst AreRising (sym whole) (rising_keys c.args.numbers.now.keys c.into_iter-number-iterator.ensures.into_iter_gives.4))
