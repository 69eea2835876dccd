-- Declarations of a program, sorted by kinds.
use Rattle.std.proofs.Common.{◌≡◌, List, [], ◌∷◌, None, map, fold, refl, sym, ap, ◌∙◌, subst}
use Rattle.store_core.specs.Tables.{TypeEntry}
use Rattle.pale_syntax.specs.declared.tree.declaration.TypeDeclaration.{TypeDeclaration}
use Rattle.pale_syntax.specs.declared.tree.declaration.PredicateDeclaration.{PredicateDeclaration}
use Rattle.pale_syntax.specs.declared.tree.declaration.Procedure.{Procedure}
use Rattle.pale_syntax.specs.declared.tree.names.Name.{Name}
use Rattle.pale_text.specs.declared.refusal.TextStop.{TextStop}
use Rattle.pale_tables.specs.declared.type_names.TypeNames.{TypeNames}
use Rattle.pale_tables.specs.Faults.{IsStop, first_of}
use Rattle.pale_tables.specs.Names.{repeated_fault}
use Rattle.pale_tables.specs.Types.{type_table, names_in, types_fault, type_names_fault}
use Rattle.pale_tables.proofs.FaultLemmas.{stop-then, stop-after, none-then}
use Rattle.pale_tables.proofs.KnownRoutes.{both}
use Rattle.pale_vocabulary.specs.declared.vocabulary.Declared.{Declared}
use Rattle.pale_vocabulary.specs.Predicates.{with_pred, nothing_with, declared_by, predicates_fault}
use Rattle.pale_fitting.specs.Declaring.{DeclarationsFit}
use Rattle.pale_fitting.proofs.NamingLemmas.{names-of}
use Rattle.pale_fitting.proofs.DeclarationLemmas.{declarations-fit}
use Rattle.pale_calls.specs.Signatures.{Named}
use Rattle.pale_procedures.specs.declared.basis.Basis.{Basis}
use Rattle.pale_typed.specs.declared.typed.ProcEntry.{ProcEntry}
use Rattle.pale_typed.specs.TypedPrograms.{TypedProgram}
use Rattle.pale_sights.specs.Formals.{named_of}
use Rattle.pale_procedures.specs.Procedures.{typed_procedure, procedure_fault}
use Rattle.pale_types.specs.Programs.{declared_in, basis_of, typed_list, names_fault, declarations_fault, list_fault}

pub map-twice : {X Y Z : Type 0} (f : Y → Z) (g : X → Y) (xs : List X) → map f (map g xs) ≡ map (λ x. f (g x)) xs
map-twice f g [] = refl
map-twice f g (x ∷ xs) = ap (λ rest. f (g x) ∷ rest) (map-twice f g xs)

pub ruleset mapped = (map-twice)

-- predicates add no type
types-with : (d : Declared) (p : PredicateDeclaration) → (with_pred d p).vocabulary.types ≡ d.vocabulary.types
unfolding with_pred
types-with d p = refl

types-kept : (d : Declared) (ps : List PredicateDeclaration) → (fold with_pred d ps).vocabulary.types ≡ d.vocabulary.types
types-kept d [] = refl
types-kept d (p ∷ ps) = types-kept (with_pred d p) ps ∙ types-with d p

pub declared-types : (ts : List TypeDeclaration) (ps : List PredicateDeclaration) → (declared_in ts ps).vocabulary.types ≡ type_table ts
declared-types ts ps = types-kept (nothing_with (type_table ts) (names_in ts)) ps

-- declarations without a fault fit
pub declared-fit : (ts : List TypeDeclaration) (ps : List PredicateDeclaration) → declarations_fault ts ps ≡ None → DeclarationsFit (declared_in ts ps)
unfolding declarations_fault
declared-fit ts ps none =
    declarations-fit (type_table ts) (names_in ts) ps (names-of ts) (both (types_fault ts) _ none).1

-- names without a fault, kind by kind
module _ (ts : List TypeDeclaration) (ps : List PredicateDeclaration) (qs : List Procedure) (none : names_fault ts ps qs ≡ None) where
  pub type-names-fine : type_names_fault [] (map (λ (t : TypeDeclaration). t.name) ts) ≡ None
  unfolding names_fault
  type-names-fine = (both (type_names_fault [] (map (λ (t : TypeDeclaration). t.name) ts)) _ none).0

  pub predicate-names-fine : repeated_fault [] (map (λ (p : PredicateDeclaration). p.name) ps) ≡ None
  unfolding names_fault
  predicate-names-fine =
      (both (repeated_fault [] (map (λ (p : PredicateDeclaration). p.name) ps)) _
      (both (type_names_fault [] (map (λ (t : TypeDeclaration). t.name) ts)) _ none).1).0

  pub procedure-names-fine : repeated_fault [] (map (λ (p : Procedure). p.name) qs) ≡ None
  unfolding names_fault
  procedure-names-fine =
      (both (repeated_fault [] (map (λ (p : PredicateDeclaration). p.name) ps)) _
      (both (type_names_fault [] (map (λ (t : TypeDeclaration). t.name) ts)) _ none).1).1

-- ---- what is made of declarations

abbrev made : Declared → List Named → Basis
made declared procedures = record { declared = declared; procedures = procedures }

pub basis-is : (ts : List TypeDeclaration) (ps : List PredicateDeclaration) (qs : List Procedure) (declared : Declared) (signatures : List Named) →
    declared ≡ declared_in ts ps → signatures ≡ map (named_of declared.vocabulary.types) qs → made declared signatures ≡ basis_of ts ps qs
basis-is ts ps qs declared signatures is are =
    ap (made declared) are
    ∙ ap (λ (d : Declared). made d (map (named_of d.vocabulary.types) qs)) is
    ∙ ap (λ (types : List TypeEntry). made (declared_in ts ps) (map (named_of types) qs)) (declared-types ts ps)

abbrev typed : List TypeEntry → List ProcEntry → TypedProgram
typed types procs = record { types = types; procs = procs }

pub typed-is : (ts : List TypeDeclaration) (ps : List PredicateDeclaration) (qs : List Procedure) (basis : Basis) (procs : List ProcEntry) →
    basis ≡ basis_of ts ps qs → procs ≡ map (typed_procedure basis) qs → typed basis.declared.vocabulary.types procs ≡ typed_list ts ps qs
unfolding typed_list
typed-is ts ps qs basis procs is are =
    ap (typed basis.declared.vocabulary.types) are
    ∙ ap (λ (b : Basis). typed b.declared.vocabulary.types (map (typed_procedure b) qs)) is
    ∙ ap (λ (types : List TypeEntry). typed types (map (typed_procedure (basis_of ts ps qs)) qs)) (declared-types ts ps)

-- ---- faults of names, where the names are known under other words

module _ (ts : List TypeDeclaration) (ps : List PredicateDeclaration) (qs : List Procedure) (tn pn qn : List Name)
    (t : map (λ (x : TypeDeclaration). x.name) ts ≡ tn) (p : map (λ (x : PredicateDeclaration). x.name) ps ≡ pn)
    (q : map (λ (x : Procedure). x.name) qs ≡ qn) where
  pub names-none : type_names_fault [] tn ≡ None → repeated_fault [] pn ≡ None → repeated_fault [] qn ≡ None → names_fault ts ps qs ≡ None
  unfolding names_fault
  names-none a b c = none-then _ _ (ap (type_names_fault []) t ∙ a) (none-then _ _ (ap (repeated_fault []) p ∙ b) (ap (repeated_fault []) q ∙ c))

  pub stop-types : (e : TextStop) → IsStop (type_names_fault [] tn) e → IsStop (names_fault ts ps qs) e
  unfolding names_fault
  stop-types e is = stop-then _ _ e (subst (λ l. IsStop (type_names_fault [] l) e) (sym t) is)

  pub stop-predicates : (e : TextStop) → type_names_fault [] tn ≡ None → IsStop (repeated_fault [] pn) e → IsStop (names_fault ts ps qs) e
  unfolding names_fault
  stop-predicates e a is =
      stop-after _ _ e (ap (type_names_fault []) t ∙ a) (stop-then _ _ e (subst (λ l. IsStop (repeated_fault [] l) e) (sym p) is))

  pub stop-procedures : (e : TextStop) → type_names_fault [] tn ≡ None → repeated_fault [] pn ≡ None → IsStop (repeated_fault [] qn) e →
      IsStop (names_fault ts ps qs) e
  unfolding names_fault
  stop-procedures e a b is =
      stop-after _ _ e (ap (type_names_fault []) t ∙ a)
      (stop-after _ _ e (ap (repeated_fault []) p ∙ b) (subst (λ l. IsStop (repeated_fault [] l) e) (sym q) is))

-- a fault of the types
pub types-stop : (ts : List TypeDeclaration) (ps : List PredicateDeclaration) (e : TextStop) → IsStop (types_fault ts) e → IsStop (declarations_fault ts ps) e
unfolding declarations_fault
types-stop ts ps e stop = stop-then _ _ e stop

-- ---- faults of declarations, over a table and names that are known under other words

module _ (ts : List TypeDeclaration) (ps : List PredicateDeclaration) (table : List TypeEntry) (names : TypeNames) (is : table ≡ type_table ts)
    (are : names ≡ names_in ts) (fine : types_fault ts ≡ None) where
  start-is : nothing_with (type_table ts) (names_in ts) ≡ nothing_with table names
  start-is = ap (λ (x : List TypeEntry). nothing_with x (names_in ts)) (sym is) ∙ ap (λ (x : TypeNames). nothing_with table x) (sym are)

  pub declared-none : predicates_fault (nothing_with table names) ps ≡ None → declarations_fault ts ps ≡ None
  unfolding declarations_fault
  declared-none none = none-then (types_fault ts) _ fine (ap (λ (d : Declared). predicates_fault d ps) start-is ∙ none)

  pub declared-stop : (e : TextStop) → IsStop (predicates_fault (nothing_with table names) ps) e → IsStop (declarations_fault ts ps) e
  unfolding declarations_fault
  declared-stop e stop = stop-after (types_fault ts) _ e fine (subst (λ (d : Declared). IsStop (predicates_fault d ps) e) (sym start-is) stop)

  pub declared-is : (declared : Declared) → declared ≡ declared_by table names ps → declared ≡ declared_in ts ps
  declared-is declared made = made ∙ ap (λ (d : Declared). fold with_pred d ps) (sym start-is)

-- ---- faults of procedures, over a basis that is known under another word

module _ (ts : List TypeDeclaration) (ps : List PredicateDeclaration) (qs : List Procedure) (names : names_fault ts ps qs ≡ None) where
  pub list-first : (e : TextStop) → IsStop (declarations_fault ts ps) e → IsStop (list_fault ts ps qs) e
  unfolding list_fault
  list-first e stop = stop-after _ _ e names (stop-then _ _ e stop)

  module _ (basis : Basis) (is : basis ≡ basis_of ts ps qs) (fine : declarations_fault ts ps ≡ None) where
    pub list-none : first_of (procedure_fault basis) qs ≡ None → list_fault ts ps qs ≡ None
    unfolding list_fault
    list-none none = none-then _ _ names (none-then _ _ fine (ap (λ (b : Basis). first_of (procedure_fault b) qs) (sym is) ∙ none))

    pub list-stop : (e : TextStop) → IsStop (first_of (procedure_fault basis) qs) e → IsStop (list_fault ts ps qs) e
    unfolding list_fault
    list-stop e stop = stop-after _ _ e names (stop-after _ _ e fine (subst (λ (b : Basis). IsStop (first_of (procedure_fault b) qs) e) is stop))

-- declarations that are known under other words
pub list-same : (ts us : List TypeDeclaration) (ps rs : List PredicateDeclaration) (qs ss : List Procedure) → ts ≡ us → ps ≡ rs → qs ≡ ss →
    list_fault ts ps qs ≡ list_fault us rs ss
list-same ts us ps rs qs ss t p q = ap (λ l. list_fault l ps qs) t ∙ ap (λ l. list_fault us l qs) p ∙ ap (list_fault us rs) q

pub typed-same : (ts us : List TypeDeclaration) (ps rs : List PredicateDeclaration) (qs ss : List Procedure) → ts ≡ us → ps ≡ rs → qs ≡ ss →
    typed_list ts ps qs ≡ typed_list us rs ss
typed-same ts us ps rs qs ss t p q = ap (λ l. typed_list l ps qs) t ∙ ap (λ l. typed_list us l qs) p ∙ ap (typed_list us rs) q
