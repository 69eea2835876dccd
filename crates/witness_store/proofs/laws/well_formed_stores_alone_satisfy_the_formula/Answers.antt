use Rattle.tree_store.proofs.FormulaLemmas.{well_encoded-means}
use Rattle.tree_store.proofs.HoldersLemmas.{backbone-lays}
use Rattle.tree_store.proofs.ExistenceLemmas.{store_of_finite}
use Rattle.witness_store.proofs.FunctionalLemmas.{IsOfWellFormed-store}
use Rattle.witness_store.proofs.laws.well_formed_stores_alone_satisfy_the_formula.Goals as goal

pub returns : goal.returns
returns c = λ types vars next a owners functional finite few. (
  (λ satisfied.
      let (s, of) = store_of_finite types vars a ((well_encoded-means types vars owners a next few finite).0 satisfied) finite in
      IsOfWellFormed-store types vars s a functional of),
  (λ of_one. (well_encoded-means types vars owners a next few finite).1
      (backbone-lays types vars of_one.store a of_one.well_formed.fits of_one.well_formed.backbone of_one.well_formed.sets of_one.assignment)),
)
