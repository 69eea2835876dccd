use Rattle.std.proofs.Common.{refl}
use Rattle.tree_apart.proofs.laws.small_tables_have_their_formulas.Goals as goal

pub returns : goal.returns
returns c = record { one = refl; variants = refl; types = refl }
