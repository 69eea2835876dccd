-- Assertions of procedures fit, and predicates can be put into them.
use Rattle.std.proofs.Common.{◌≡◌, List, None, refl}
use Rattle.store_core.specs.Tables.{VarEntry}
use Rattle.store_logic.specs.Fits.{FitsIn, AssertionFits}
use Rattle.store_logic.specs.Expansion.{expansion}
use Rattle.store_logic.specs.Uses.{CanExpand}
use Rattle.pale_syntax.specs.declared.tree.assertion.Assertion as source
use Rattle.pale_terms.specs.Visibles.{Entry}
use Rattle.pale_vocabulary.specs.Assertions.{assertion_fault, typed_assertion}
use Rattle.pale_vocabulary.specs.declared.vocabulary.Declared.{Declared}
use Rattle.pale_fitting.specs.Standing.{AreVariables, pred_sorts, scope_with}
use Rattle.pale_fitting.specs.Declaring.{DeclarationsFit}
use Rattle.pale_fitting.proofs.BindingLemmas.{variables-stand}
use Rattle.pale_fitting.proofs.AssertionFitLemmas.{assertion-fits}
use Rattle.pale_fitting.proofs.UseLemmas.{can-expand}
use Rattle.pale_fitting.proofs.ExpansionLemmas.{expansion-fits}

module _ (d : Declared) (vars : List VarEntry) (entries : List Entry) (a : source.Assertion) (fit : DeclarationsFit d) (all : AreVariables vars entries)
    (none : assertion_fault d.vocabulary entries a ≡ None) where
  pub procedure-fits : FitsIn d.vocabulary.types (typed_assertion d.vocabulary entries a) (scope_with vars d.vocabulary.preds)
  procedure-fits =
      assertion-fits d.vocabulary fit.names a entries (scope_with vars d.vocabulary.preds) (variables-stand vars d.vocabulary.preds entries all) refl none

  pub procedure-can-expand : CanExpand d.preds (typed_assertion d.vocabulary entries a)
  procedure-can-expand =
      can-expand d.vocabulary.types d.preds (scope_with vars d.vocabulary.preds) (typed_assertion d.vocabulary entries a) fit.preds procedure-fits

  pub procedure-expansion-fits : AssertionFits d.vocabulary.types vars (expansion d.preds (typed_assertion d.vocabulary entries a))
  procedure-expansion-fits =
      expansion-fits d.vocabulary.types vars d.preds (pred_sorts d.vocabulary.preds) (typed_assertion d.vocabulary entries a) fit.preds procedure-fits
