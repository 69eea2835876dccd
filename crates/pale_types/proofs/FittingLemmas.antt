-- Programs without a fault fit.
use Rattle.std.proofs.Common.{◌≡◌, ◌≤◌, ℕ, List, [], ◌∷◌, ◌++◌, length, map, None, Result, Ok, Err, IfOk, OnOk, refl, sym}
use Rattle.std.proofs.Common.{ap, ◌∙◌, subst, arith, append_assoc, append-nil}
use Rattle.std.specs.List.{AllByRecursion}
use Rattle.std.proofs.lemmas.List.{length-map}
use Rattle.pale_syntax.specs.declared.tree.names.Name.{Name}
use Rattle.pale_syntax.specs.declared.tree.declaration.Program.{Program}
use Rattle.pale_syntax.specs.declared.tree.declaration.TypeDeclaration.{TypeDeclaration}
use Rattle.pale_syntax.specs.declared.tree.declaration.PredicateDeclaration.{PredicateDeclaration}
use Rattle.pale_syntax.specs.declared.tree.declaration.Procedure.{Procedure}
use Rattle.store_core.specs.Tables.{TypeEntry, AreDistinct, place_of}
use Rattle.store_core.proofs.Names.{AreDistinct-push}
use Rattle.pale_tables.specs.Faults.{first_of}
use Rattle.pale_tables.specs.Names.{repeated_fault}
use Rattle.pale_tables.specs.Types.{names_in, type_entry, type_table, types_fault}
use Rattle.pale_tables.proofs.KnownRoutes.{both, needed}
use Rattle.pale_tables.proofs.TableLemmas.{names-once, table_is}
use Rattle.pale_procedures.specs.declared.basis.Basis.{Basis}
use Rattle.pale_typed.specs.declared.typed.ProcEntry.{ProcEntry}
use Rattle.pale_typed.specs.TypedPrograms.{TypedProgram}
use Rattle.pale_sights.specs.Formals.{named_of}
use Rattle.pale_procedures.specs.Statements.{types_of}
use Rattle.pale_procedures.specs.Procedures.{typed_procedure, procedure_fault}
use Rattle.pale_types.specs.Programs.{basis_of, typed_list, typed_program, names_fault, declarations_fault, list_fault, program_fault}
use Rattle.pale_types.specs.Programs.{types_in, predicates_in, procedures_in}
use Rattle.pale_typed.specs.Fitting.{ProcFits, ProgramFits}
use Rattle.pale_types.proofs.ProgramLemmas.{declared-types, declared-fit, type-names-fine, procedure-names-fine}
use Rattle.pale_sights.proofs.FittingCallsLemmas.{none-is}
use Rattle.pale_sights.proofs.FittingRouteLemmas.{routes-fit}
use Rattle.pale_types.proofs.FittingProcedureLemmas.{procedure-fits}

-- ---- names

names-apart : (before : List (List ℕ)) (names : List Name) → AreDistinct before → repeated_fault before names ≡ None →
    AreDistinct (before ++ map (λ (n : Name). n.bytes) names)
names-apart before [] distinct none = subst AreDistinct (sym (append-nil before)) distinct
names-apart before (name ∷ names) distinct none =
    let parts = both _ _ none in
    subst AreDistinct (append_assoc before (name.bytes ∷ []) (map (λ (n : Name). n.bytes) names))
    (names-apart (before ++ name.bytes ∷ []) names
    (AreDistinct-push before name.bytes distinct (none-is (place_of name.bytes before) (needed _ _ _ parts.0))) parts.1)

typed-name : (basis : Basis) (q : Procedure) → (typed_procedure basis q).proc.name ≡ q.name.bytes
unfolding typed_procedure
typed-name basis q = refl

typed-names : (basis : Basis) (qs : List Procedure) →
    map (λ (n : Name). n.bytes) (map (λ (q : Procedure). q.name) qs) ≡ map (λ (e : ProcEntry). e.proc.name) (map (typed_procedure basis) qs)
typed-names basis [] = refl
typed-names basis (q ∷ qs) =
    ap (λ (name : List ℕ). name ∷ map (λ (n : Name). n.bytes) (map (λ (p : Procedure). p.name) qs)) (sym (typed-name basis q))
    ∙ ap (λ (names : List (List ℕ)). (typed_procedure basis q).proc.name ∷ names) (typed-names basis qs)

-- ---- programs

module _ (ts : List TypeDeclaration) (ps : List PredicateDeclaration) (qs : List Procedure) (none : list_fault ts ps qs ≡ None) where
  abbrev basis : Basis
  basis = basis_of ts ps qs

  names-none : names_fault ts ps qs ≡ None
  unfolding list_fault
  names-none = (both (names_fault ts ps qs) _ none).0

  declarations-none : declarations_fault ts ps ≡ None
  unfolding list_fault
  declarations-none = (both (declarations_fault ts ps) _ (both (names_fault ts ps qs) _ none).1).0

  procedures-none : first_of (procedure_fault basis) qs ≡ None
  unfolding list_fault
  procedures-none = (both (declarations_fault ts ps) _ (both (names_fault ts ps qs) _ none).1).1

  types-none : types_fault ts ≡ None
  unfolding declarations_fault
  types-none = (both (types_fault ts) _ declarations-none).0

  each-fits : (some : List Procedure) → first_of (procedure_fault basis) some ≡ None →
      AllByRecursion (ProcFits (types_of basis) (map (typed_procedure basis) qs)) (map (typed_procedure basis) some)
  each-fits [] fine = tt
  each-fits (q ∷ some) fine =
      let parts = both (procedure_fault basis q) _ fine in (
        procedure-fits basis qs (declared-fit ts ps declarations-none) (ap (λ (types : List TypeEntry). map (named_of types) qs) (sym (declared-types ts ps)))
            q parts.0,
        each-fits some parts.1,
      )

  few : length (type_table ts) ≤ 32
  unfolding type_table
  few =
      let once = names-once [] (map (λ (t : TypeDeclaration). t.name) ts) (tt, omega arith) (type-names-fine ts ps qs names-none) in
      omega (
        arith,
        once.1,
        length-map (map (λ (t : TypeDeclaration). t.name) ts) (λ (n : Name). n.bytes),
        length-map ts (λ (t : TypeDeclaration). t.name),
        length-map ts (type_entry (names_in ts)),
      )

  pub list-fits : ProgramFits (typed_list ts ps qs)
  unfolding typed_list
  list-fits = record {
    few_types = few;
    types = table_is ts (type-names-fine ts ps qs names-none) types-none;
    routes = routes-fit ts types-none;
    names =
        subst AreDistinct (typed-names basis qs)
        (names-apart [] (map (λ (q : Procedure). q.name) qs) tt (procedure-names-fine ts ps qs names-none));
    procs = subst (λ (types : List TypeEntry). AllByRecursion (ProcFits types (map (typed_procedure basis) qs)) (map (typed_procedure basis) qs))
        (declared-types ts ps) (each-fits qs procedures-none);
  }

pub program-fits : (program : Program) → program_fault program ≡ None → ProgramFits (typed_program program)
program-fits program none = list-fits (types_in program) (predicates_in program) (procedures_in program) none

-- what is answered where there is no fault
pub typed-fits : {E : Type 0} (program : Program) (answer : Result TypedProgram E) → OnOk answer (program_fault program ≡ None) →
    IfOk answer (λ typed. typed ≡ typed_program program) → IfOk answer ProgramFits
typed-fits program (Ok typed) none is = subst ProgramFits (sym is) (program-fits program none)
typed-fits program (Err e) none is = tt
