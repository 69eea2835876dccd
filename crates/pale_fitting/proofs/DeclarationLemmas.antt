-- Predicates without a fault fit.
use Rattle.std.proofs.Common.{◌≡◌, List, [], ◌∷◌, ◌++◌, map, fold, length, reverse, None, refl, sym, ap, ◌∙◌, subst}
use Rattle.std.proofs.lemmas.List.{length-map, reverse-append, reverse-reverse}
use Rattle.pale_syntax.specs.declared.tree.assertion.Bracketed.{Bracketed}
use Rattle.pale_syntax.specs.declared.tree.declaration.PredicateDeclaration.{PredicateDeclaration}
use Rattle.store_core.specs.Tables.{TypeEntry}
use Rattle.store_logic.specs.declared.pred.PredDef.{PredDef}
use Rattle.store_logic.specs.Sorts as logic
use Rattle.store_logic.specs.Fits.{FitsIn, PredsFit}
use Rattle.pale_tables.specs.declared.type_names.TypeNames.{TypeNames}
use Rattle.pale_tables.proofs.KnownRoutes.{both}
use Rattle.pale_terms.specs.Visibles.{Entry}
use Rattle.pale_vocabulary.specs.Heads.{Head}
use Rattle.pale_vocabulary.specs.Assertions.{assertion_fault, typed_assertion}
use Rattle.pale_vocabulary.specs.declared.vocabulary.Declared.{Declared}
use Rattle.pale_vocabulary.specs.Parameters.{sort_of}
use Rattle.pale_vocabulary.specs.Predicates.{bracketed_fault, params_of, with_pred, predicate_fault, predicates_fault, nothing_with, declared_by}
use Rattle.pale_fitting.specs.Standing.{sort_in, pred_sorts}
use Rattle.pale_fitting.specs.Naming.{AreNamesOf}
use Rattle.pale_fitting.specs.Declaring.{DeclarationsFit}
use Rattle.pale_fitting.proofs.ParameterLemmas.{parameters-stand}
use Rattle.pale_fitting.proofs.AssertionFitLemmas.{assertion-fits}

-- an assertion in its brackets has no fault
pub assertion-none : (d : Declared) (entries : List Entry) (b : Bracketed) → bracketed_fault d entries b ≡ None →
    assertion_fault d.vocabulary entries b.assertion ≡ None
unfolding bracketed_fault
assertion-none d entries b none = (both _ _ none).0

reverse-push : {X : Type 0} (xs : List X) (x : X) → reverse (xs ++ x ∷ []) ≡ x ∷ reverse xs
reverse-push xs x = reverse-append xs (x ∷ [])

sorts-push : (heads : List Head) (head : Head) → pred_sorts (heads ++ head ∷ []) ≡ pred_sorts heads ++ map sort_in head.params ∷ []
sorts-push [] head = refl
sorts-push (h ∷ heads) head = ap (λ (l : List (List logic.Sort)). map sort_in h.params ∷ l) (sorts-push heads head)

-- one predicate more
module _ (d : Declared) (fit : DeclarationsFit d) (p : PredicateDeclaration) (none : predicate_fault d p ≡ None) where
  body-none : assertion_fault d.vocabulary (params_of d p) p.body.assertion ≡ None
  unfolding predicate_fault
  body-none = assertion-none d (params_of d p) p.body (both _ _ none).1

  body-fits : FitsIn d.vocabulary.types (typed_assertion d.vocabulary (params_of d p) p.body.assertion)
      (record { vars = []; bound = []; params = map sort_in (map (sort_of d.vocabulary.types) p.parameters); preds = pred_sorts d.vocabulary.preds })
  body-fits =
      assertion-fits d.vocabulary fit.names p.body.assertion (params_of d p)
      (record { vars = []; bound = []; params = map sort_in (map (sort_of d.vocabulary.types) p.parameters); preds = pred_sorts d.vocabulary.preds })
      (parameters-stand d.vocabulary.types (pred_sorts d.vocabulary.preds) p.parameters) refl body-none

  pub more-fit : DeclarationsFit (with_pred d p)
  unfolding with_pred
  more-fit =
      let own = map (sort_of d.vocabulary.types) p.parameters in
      let def : PredDef = record { params = length own; body = typed_assertion d.vocabulary (params_of d p) p.body.assertion } in
      let head : Head = record { name = p.name.bytes; params = own } in record {
        names = fit.names;
        preds =
            subst (λ (l : List PredDef). PredsFit d.vocabulary.types l (reverse (pred_sorts (d.vocabulary.preds ++ head ∷ []))))
            (sym (reverse-push d.preds def))
            (subst (λ (l : List (List logic.Sort)). PredsFit d.vocabulary.types (def ∷ reverse d.preds) l)
            (sym (ap reverse (sorts-push d.vocabulary.preds head) ∙ reverse-push (pred_sorts d.vocabulary.preds) (map sort_in own))) (
              length-map own sort_in,
              subst (λ (l : List (List logic.Sort)). FitsIn d.vocabulary.types def.body (record { vars = []; bound = []; params = map sort_in own; preds = l }))
                  (sym (reverse-reverse (pred_sorts d.vocabulary.preds))) body-fits,
              fit.preds,
            ));
      }

all-fit : (ps : List PredicateDeclaration) (d : Declared) → DeclarationsFit d → predicates_fault d ps ≡ None → DeclarationsFit (fold with_pred d ps)
all-fit [] d fit none = fit
all-fit (p ∷ ps) d fit none = let parts = both _ _ none in all-fit ps (with_pred d p) (more-fit d fit p parts.0) parts.1

pub declarations-fit : (types : List TypeEntry) (names : TypeNames) (ps : List PredicateDeclaration) → AreNamesOf types names →
    predicates_fault (nothing_with types names) ps ≡ None → DeclarationsFit (declared_by types names ps)
declarations-fit types names ps of none = all-fit ps (nothing_with types names) (record { names = of; preds = tt }) none
