-- Names of predicates, each new.
use Rattle.std.proofs.Common.{◌≡◌, ℕ, Bool, true, List, [], ◌∷◌, ◌++◌, Option, Some, None, is_none, map, refl, sym, ap, ◌∙◌}
use Rattle.store_core.specs.Tables.{place_of}
use Rattle.pale_syntax.specs.declared.tree.names.Name.{Name}
use Rattle.pale_tables.specs.Names.{is_new, repeated_fault}
use Rattle.pale_syntax.specs.declared.tree.declaration.PredicateDeclaration.{PredicateDeclaration}
use Rattle.std.proofs.lemmas.List.{map_push}
use Rattle.pale_tables.proofs.KnownRoutes.{both, needed}
use Rattle.pale_vocabulary.specs.Heads.{Head, head_names}
use Rattle.pale_vocabulary.specs.declared.vocabulary.Declared.{Declared}
use Rattle.pale_vocabulary.specs.Parameters.{sort_of}
use Rattle.pale_vocabulary.specs.Predicates.{with_pred}

none_from : (place : Option ℕ) → is_none place ≡ true → place ≡ None
none_from None is = refl
none_from (Some i) is = absurd (cc)

-- the first is new
pub names-first : (before : List (List ℕ)) (name : Name) (names : List Name) → repeated_fault before (name ∷ names) ≡ None →
    place_of name.bytes before ≡ None
names-first before name names none = none_from _ (needed _ _ _ (both _ _ none).0)

-- the others are new behind it
pub names-rest : (before : List (List ℕ)) (name : Name) (names : List Name) → repeated_fault before (name ∷ names) ≡ None →
    repeated_fault (before ++ name.bytes ∷ []) names ≡ None
names-rest before name names none = (both _ _ none).1

-- a predicate's name goes last
pub heads-next : (d : Declared) (p : PredicateDeclaration) →
    head_names (with_pred d p).vocabulary.preds ≡ head_names d.vocabulary.preds ++ p.name.bytes ∷ []
unfolding with_pred
heads-next d p =
    map_push (λ (h : Head). h.name) d.vocabulary.preds (record { name = p.name.bytes; params = map (sort_of d.vocabulary.types) p.parameters })
