use Rattle.tree_store.proofs.FormulaLemmas.{well_encoded-means}
use Rattle.tree_store.proofs.meaning.the_formula_lays_out_backbones.Goals as goal

pub returns : goal.returns
returns c = λ types vars next a owners finite few. well_encoded-means types vars owners a next few finite
