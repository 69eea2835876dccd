use Rattle.std.proofs.Common.{◌≡◌, ◌++◌, take, drop}
use Rattle.std.specs.Prelude.{map}
use Rattle.bdd_nodes.specs.Collecting.{linked_table}
use Rattle.bdd_nodes.proofs.collecting.move_tables.Given as goal

abbrev pub invariant-loop-at : goal.invariant-loop-at
invariant-loop-at l = l.tables ≡ map (linked_table l.links) (take l.at l.initial.tables) ++ drop l.at l.initial.tables
