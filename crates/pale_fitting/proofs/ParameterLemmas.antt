-- Parameters of predicates stand for what they are in the scope.
use Rattle.std.proofs.Common.{◌≡◌, ◌+◌, List, [], ◌∷◌, ◌++◌, map, length, slice_get, refl, sym, ap, ◌∙◌, subst, append_assoc}
use Rattle.std.proofs.lemmas.List.{length_push}
use Rattle.pale_syntax.specs.declared.tree.declaration.PredicateParameter.{PredicateParameter}
use Rattle.store_core.specs.Tables.{TypeEntry}
use Rattle.store_logic.specs.Sorts as logic
use Rattle.store_logic.proofs.ExpandingLists.{slice_get-seam}
use Rattle.pale_vocabulary.specs.Parameters as parameters
use Rattle.pale_fitting.specs.Standing.{sort_in, StandFor}

-- parameters of these sorts after those before them
parameters-from : (types : List TypeEntry) (preds : List (List logic.Sort)) (before : List logic.Sort) (ps : List PredicateParameter)
    (params : List logic.Sort) → params ≡ before ++ map sort_in (map (parameters.sort_of types) ps) →
    StandFor (parameters.scope_of types (length before) ps) (record { vars = []; bound = []; params = params; preds = preds })
parameters-from types preds before [] params is = tt
parameters-from types preds before (p ∷ ps) params is =
    let own = sort_in (parameters.sort_of types p) in
    let count : length (before ++ own ∷ []) ≡ length before + 1 = length_push before own in (
      λ may. ap (λ (l : List logic.Sort). slice_get l (length before)) is ∙ slice_get-seam before own (map sort_in (map (parameters.sort_of types) ps)),
      subst (λ n. StandFor (parameters.scope_of types n ps) (record { vars = []; bound = []; params = params; preds = preds })) count
          (parameters-from types preds (before ++ own ∷ []) ps params
          (is ∙ sym (append_assoc before (own ∷ []) (map sort_in (map (parameters.sort_of types) ps))))),
    )

pub parameters-stand : (types : List TypeEntry) (preds : List (List logic.Sort)) (ps : List PredicateParameter) →
    StandFor (parameters.scope_of types 0 ps) (record { vars = []; bound = []; params = map sort_in (map (parameters.sort_of types) ps); preds = preds })
parameters-stand types preds ps = parameters-from types preds [] ps (map sort_in (map (parameters.sort_of types) ps)) refl
