-- Variables without a fault have names that stand once.
use Rattle.std.proofs.Common.{◌≡◌, ℕ, true, List, [], ◌∷◌, ◌++◌, Option, Some, None, is_none, map, append-nil, append_assoc, refl, sym, ap, subst}
use Rattle.store_core.specs.Tables.{TypeEntry, place_of, AreDistinct, var_names}
use Rattle.store_core.proofs.Names.{AreDistinct-push}
use Rattle.pale_syntax.specs.declared.tree.names.Name.{Name}
use Rattle.pale_syntax.specs.declared.tree.declaration.Parameter.{Parameter}
use Rattle.pale_syntax.specs.declared.tree.declaration.LogicParameter.{LogicParameter}
use Rattle.pale_tables.proofs.KnownRoutes.{both, needed}
use Rattle.pale_sights.specs.Variables.{name_of, variable_of, logic_name_of, logic_of, name_fault, variable_fault, logic_fault}
use Rattle.pale_sights.specs.Variables.{variables_fault, logics_fault, with_names, with_logic_names}

none_from : (place : Option ℕ) → is_none place ≡ true → place ≡ None
none_from None is = refl
none_from (Some i) is = absurd (cc)

name-new : (before : List (List ℕ)) (x : Name) → name_fault before x ≡ None → place_of x.bytes before ≡ None
unfolding name_fault
name-new before x none = none_from _ (needed _ _ _ (both _ _ none).1)

-- the names stand once, with those before them
pub variables-new : (types : List TypeEntry) (before : List (List ℕ)) (ps : List Parameter) → variables_fault types before ps ≡ None → AreDistinct before →
    AreDistinct (with_names before ps)
unfolding variable_fault
variables-new types before [] none distinct = subst AreDistinct (sym (append-nil before)) distinct
variables-new types before (p ∷ ps) none distinct =
    let parts = both (variable_fault types before p) _ none in
    subst AreDistinct (append_assoc before ((name_of p).bytes ∷ []) (map (λ q. (name_of q).bytes) ps))
    (variables-new types (before ++ (name_of p).bytes ∷ []) ps parts.1
    (AreDistinct-push before (name_of p).bytes distinct (name-new before (name_of p) (both _ _ parts.0).0)))

pub logics-new : (types : List TypeEntry) (before : List (List ℕ)) (ps : List LogicParameter) → logics_fault types before ps ≡ None → AreDistinct before →
    AreDistinct (with_logic_names before ps)
unfolding logic_fault
logics-new types before [] none distinct = subst AreDistinct (sym (append-nil before)) distinct
logics-new types before (p ∷ ps) none distinct =
    let parts = both (logic_fault types before p) _ none in
    subst AreDistinct (append_assoc before ((logic_name_of p).bytes ∷ []) (map (λ q. (logic_name_of q).bytes) ps))
    (logics-new types (before ++ (logic_name_of p).bytes ∷ []) ps parts.1
    (AreDistinct-push before (logic_name_of p).bytes distinct (name-new before (logic_name_of p) (both _ _ parts.0).0)))

-- the names of the variables are those that are declared
pub variable-names : (types : List TypeEntry) (ps : List Parameter) → var_names (map (variable_of types) ps) ≡ map (λ p. (name_of p).bytes) ps
variable-names types [] = refl
variable-names types (p ∷ ps) = ap (λ names. (name_of p).bytes ∷ names) (variable-names types ps)

pub logic-names : (types : List TypeEntry) (ps : List LogicParameter) → var_names (map (logic_of types) ps) ≡ map (λ p. (logic_name_of p).bytes) ps
logic-names types [] = refl
logic-names types (p ∷ ps) = ap (λ names. (logic_name_of p).bytes ∷ names) (logic-names types ps)
