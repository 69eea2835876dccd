use Rattle.std.proofs.Common.{refl}
use Rattle.tree_formula.proofs.laws.small_layouts_have_their_formulas.Goals as goal

pub returns : goal.returns
returns c = record { list = refl; split = refl }
