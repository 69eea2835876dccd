-- When what a program declares besides its procedures fits.
use Rattle.std.specs.Prelude.{reverse}
use Rattle.store_logic.specs.Fits.{PredsFit}
use Rattle.pale_vocabulary.specs.declared.vocabulary.Declared.{Declared}
use Rattle.pale_fitting.specs.Standing.{pred_sorts}
use Rattle.pale_fitting.specs.Naming.{AreNamesOf}

-- the names that routes use are those of the types, and each predicate fits where those before it may be used
pub record DeclarationsFit (declared : Declared) : Type 0 where
  pub names : AreNamesOf declared.vocabulary.types declared.vocabulary.names
  pub preds : PredsFit declared.vocabulary.types (reverse declared.preds) (reverse (pred_sorts declared.vocabulary.preds))
