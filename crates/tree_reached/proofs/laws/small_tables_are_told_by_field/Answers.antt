use Rattle.std.proofs.Common.{refl}
use Rattle.tree_reached.proofs.laws.small_tables_are_told_by_field.Goals as goal

pub returns : goal.returns
returns c = record { list = refl; pair = refl }
