-- Programs: what they are typed as, and what is refused first.
use Rattle.std.specs.Prelude.{List, [], map, filter_map, Option, Some, None}
use Rattle.pale_syntax.specs.declared.tree.declaration.Program.{Program}
use Rattle.pale_syntax.specs.declared.tree.declaration.Declaration.{Declaration}
use Rattle.pale_syntax.specs.declared.tree.declaration.Declaration.TheVariants as declaration
use Rattle.pale_syntax.specs.declared.tree.declaration.TypeDeclaration.{TypeDeclaration}
use Rattle.pale_syntax.specs.declared.tree.declaration.PredicateDeclaration.{PredicateDeclaration}
use Rattle.pale_syntax.specs.declared.tree.declaration.Procedure.{Procedure}
use Rattle.pale_tables.specs.Faults.{Fault, ◌>>◌, first_of}
use Rattle.pale_tables.specs.Names.{repeated_fault}
use Rattle.pale_tables.specs.Types.{names_in, type_table, type_names_fault, types_fault}
use Rattle.pale_vocabulary.specs.declared.vocabulary.Declared.{Declared}
use Rattle.pale_vocabulary.specs.Predicates.{declared_by, nothing_with, predicates_fault}
use Rattle.pale_procedures.specs.declared.basis.Basis.{Basis}
use Rattle.pale_typed.specs.TypedPrograms.{TypedProgram}
use Rattle.pale_sights.specs.Formals.{named_of}
use Rattle.pale_procedures.specs.Procedures.{procedure_fault, typed_procedure}

-- ---- the declarations of each kind, in order of the text

abbrev pub as_type : Declaration → Option TypeDeclaration
as_type (declaration.Type t) = Some t
as_type (declaration.Predicate p) = None
as_type (declaration.Procedure p) = None

abbrev pub as_predicate : Declaration → Option PredicateDeclaration
as_predicate (declaration.Type t) = None
as_predicate (declaration.Predicate p) = Some p
as_predicate (declaration.Procedure p) = None

abbrev pub as_procedure : Declaration → Option Procedure
as_procedure (declaration.Type t) = None
as_procedure (declaration.Predicate p) = None
as_procedure (declaration.Procedure p) = Some p

abbrev pub types_in : Program → List TypeDeclaration
types_in program = filter_map as_type program.declarations

abbrev pub predicates_in : Program → List PredicateDeclaration
predicates_in program = filter_map as_predicate program.declarations

abbrev pub procedures_in : Program → List Procedure
procedures_in program = filter_map as_procedure program.declarations

-- ---- what a program is typed as

-- what it declares besides its procedures
abbrev pub declared_in : List TypeDeclaration → List PredicateDeclaration → Declared
declared_in types predicates = declared_by (type_table types) (names_in types) predicates

-- what each procedure may use: types, predicates, and all procedures
abbrev pub basis_of : List TypeDeclaration → List PredicateDeclaration → List Procedure → Basis
basis_of types predicates procedures =
    record { declared = declared_in types predicates; procedures = map (named_of (type_table types)) procedures }

-- the types and the procedures of these declarations
unfoldable pub typed_list : List TypeDeclaration → List PredicateDeclaration → List Procedure → TypedProgram
typed_list types predicates procedures =
    record { types = type_table types; procs = map (typed_procedure (basis_of types predicates procedures)) procedures }

-- what a program is typed as
abbrev pub typed_program : Program → TypedProgram
typed_program program = typed_list (types_in program) (predicates_in program) (procedures_in program)

-- ---- faults

-- the names of types, of predicates and of procedures: each kind has a name space of its own
unfoldable pub names_fault : List TypeDeclaration → List PredicateDeclaration → List Procedure → Fault
names_fault types predicates procedures =
    type_names_fault [] (map (λ (t : TypeDeclaration). t.name) types)
    >> repeated_fault [] (map (λ (p : PredicateDeclaration). p.name) predicates)
    >> repeated_fault [] (map (λ (p : Procedure). p.name) procedures)

-- the types, and then the predicates
unfoldable pub declarations_fault : List TypeDeclaration → List PredicateDeclaration → Fault
declarations_fault types predicates = types_fault types >> predicates_fault (nothing_with (type_table types) (names_in types)) predicates

-- the names, types and predicates, and then the procedures
unfoldable pub list_fault : List TypeDeclaration → List PredicateDeclaration → List Procedure → Fault
list_fault types predicates procedures =
    names_fault types predicates procedures
    >> declarations_fault types predicates >> first_of (procedure_fault (basis_of types predicates procedures)) procedures

-- the first fault of a program
abbrev pub program_fault : Program → Fault
program_fault program = list_fault (types_in program) (predicates_in program) (procedures_in program)
