-- Predicates: what the declarations are, and what is refused first.
use Rattle.std.specs.Prelude.{ℕ, not, List, [], ◌∷◌, ◌++◌, length, map, fold, None}
use Rattle.pale_text.specs.declared.refusal.RefusalKind.TheVariants as kind
use Rattle.pale_syntax.specs.declared.tree.assertion.Bracketed.{Bracketed}
use Rattle.pale_syntax.specs.declared.tree.declaration.PredicateDeclaration.{PredicateDeclaration}
use Rattle.store_core.specs.Tables.{TypeEntry}
use Rattle.store_logic.specs.declared.assertion.Assertion.{Assertion}
use Rattle.store_logic.specs.declared.pred.PredDef.{PredDef}
use Rattle.store_expand.specs.Sizes.{is_too_big}
use Rattle.pale_tables.specs.declared.type_names.TypeNames.{TypeNames}
use Rattle.pale_tables.specs.Faults.{Fault, need, ◌>>◌}
use Rattle.pale_terms.specs.declared.sort.Sort.{Sort}
use Rattle.pale_terms.specs.Visibles.{Entry}
use Rattle.pale_vocabulary.specs.declared.vocabulary.Vocabulary.{Vocabulary}
use Rattle.pale_vocabulary.specs.Assertions.{assertion_fault, typed_assertion}
use Rattle.pale_vocabulary.specs.declared.vocabulary.Declared.{Declared}
use Rattle.pale_vocabulary.specs.Parameters.{sort_of, scope_of, parameters_fault}

-- ---- assertions in their brackets

-- the assertion has no fault, and at most 65,536 nodes with the predicates put in, else it is refused at its `[`
unfoldable pub bracketed_fault : Declared → List Entry → Bracketed → Fault
bracketed_fault declared scope b =
    assertion_fault declared.vocabulary scope b.assertion
    >> need (not (is_too_big declared.preds (typed_assertion declared.vocabulary scope b.assertion))) kind.BigFormula b.place

-- ---- predicates

-- these declarations with a predicate more
abbrev pub with_parts : Declared → List ℕ → List Sort → Assertion → Declared
with_parts declared name params body = record {
  vocabulary = record declared.vocabulary { preds = declared.vocabulary.preds ++ record { name = name; params = params } ∷ [] };
  preds = declared.preds ++ record { params = length params; body = body } ∷ [];
}

-- what its body may name: its parameters
abbrev pub params_of : Declared → PredicateDeclaration → List Entry
params_of declared p = scope_of declared.vocabulary.types 0 p.parameters

-- a predicate goes last
unfoldable pub with_pred : Declared → PredicateDeclaration → Declared
with_pred declared p =
    with_parts declared p.name.bytes (map (sort_of declared.vocabulary.types) p.parameters)
    (typed_assertion declared.vocabulary (params_of declared p) p.body.assertion)

-- its parameters, and then its body, which may use the predicates before it
unfoldable pub predicate_fault : Declared → PredicateDeclaration → Fault
predicate_fault declared p = parameters_fault declared.vocabulary.types [] p.parameters >> bracketed_fault declared (params_of declared p) p.body

-- predicates after those that are declared, in order
abbrev pub predicates_fault : Declared → List PredicateDeclaration → Fault
predicates_fault declared [] = None
predicates_fault declared (p ∷ predicates) = predicate_fault declared p >> predicates_fault (with_pred declared p) predicates

-- no predicate
abbrev pub nothing_with : List TypeEntry → TypeNames → Declared
nothing_with types names = record { vocabulary = record { types = types; names = names; preds = [] }; preds = [] }

-- all predicates
abbrev pub declared_by : List TypeEntry → TypeNames → List PredicateDeclaration → Declared
declared_by types names predicates = fold with_pred (nothing_with types names) predicates
