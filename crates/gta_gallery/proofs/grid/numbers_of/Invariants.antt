use Rattle.gta_gallery.specs.Functions.{AreValues}
use Rattle.gta_gallery.proofs.grid.numbers_of.Given as goal

abbrev pub invariant-loop-number : goal.invariant-loop-number
invariant-loop-number l = AreValues (λ k. k) l.number l.list.items
