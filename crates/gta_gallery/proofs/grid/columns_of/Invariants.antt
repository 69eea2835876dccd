use Rattle.std.proofs.Common.{◌%◌}
use Rattle.gta_gallery.specs.Functions.{AreValues}
use Rattle.gta_gallery.proofs.grid.columns_of.Given as goal

abbrev pub invariant-loop-state : goal.invariant-loop-state
invariant-loop-state l = AreValues (λ q. q % l.columns) l.state l.list.items
