use Rattle.tree_store.proofs.FormulaLemmas.{well_encoded-means}
use Rattle.tree_store.proofs.HoldersLemmas.{backbone-lays}
use Rattle.tree_store.proofs.ExistenceLemmas.{store_of_finite}
use Rattle.tree_store.proofs.backbones.backbones_alone_satisfy_the_formula.Goals as goal

pub returns : goal.returns
returns c = λ types vars next a owners finite few. (
  (λ satisfied.
      let (store, is) = store_of_finite types vars a ((well_encoded-means types vars owners a next few finite).0 satisfied) finite in
      record { store = store; fits = is.fits; backbone = is.backbone; sets = is.sets; assignment = is.assignment }),
  (λ of_one. (well_encoded-means types vars owners a next few finite).1
      (backbone-lays types vars of_one.store a of_one.fits of_one.backbone of_one.sets of_one.assignment)),
)
