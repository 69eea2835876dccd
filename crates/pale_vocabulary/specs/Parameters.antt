-- Parameters of predicates: what they stand for, and their faults.
use Rattle.std.specs.Prelude.{ℕ, ◌+◌, Bool, true, List, [], ◌∷◌, ◌++◌, length, None, is_some, unwrap_or}
use Rattle.pale_text.specs.declared.refusal.RefusalKind.TheVariants as kind
use Rattle.pale_syntax.specs.declared.tree.names.Name.{Name}
use Rattle.pale_syntax.specs.declared.tree.declaration.PredicateParameter.{PredicateParameter}
use Rattle.pale_syntax.specs.declared.tree.declaration.PredicateParameter.TheVariants as parameter
use Rattle.store_core.specs.declared.ids.TypeId.{TypeId}
use Rattle.store_core.specs.Tables.{TypeEntry, type_named}
use Rattle.pale_tables.specs.Faults.{Fault, need, ◌>>◌}
use Rattle.pale_terms.specs.declared.sort.Sort.{Sort}
use Rattle.pale_terms.specs.declared.sort.Sort.TheVariants as sort
use Rattle.pale_terms.specs.declared.scope.Origin.TheVariants as origin
use Rattle.pale_terms.specs.Visibles.{Entry}
use Rattle.pale_terms.specs.Scopes.{new_name_fault}

-- ---- what a parameter stands for; a type that isn't there, which is refused, counts as the first

abbrev pub name_of : PredicateParameter → Name
name_of (parameter.Cell name ty) = name
name_of (parameter.Set name ty) = name
name_of (parameter.Bool name) = name

unfoldable pub type_of : List TypeEntry → Name → TypeId
type_of types ty = unwrap_or (type_named types ty.bytes) (record { 0 = 0 })

abbrev pub sort_of : List TypeEntry → PredicateParameter → Sort
sort_of types (parameter.Cell name ty) = sort.Cell (type_of types ty)
sort_of types (parameter.Set name ty) = sort.Set (type_of types ty)
sort_of types (parameter.Bool name) = sort.Truth

-- a parameter with its number
abbrev pub param_entry : List TypeEntry → ℕ → PredicateParameter → Entry
param_entry types number p =
    record { name = (name_of p).bytes; visible = record { origin = origin.Parameter number; sort = sort_of types p; may = true } }

-- parameters, the first of which has this number
abbrev pub scope_of : List TypeEntry → ℕ → List PredicateParameter → List Entry
scope_of types number [] = []
scope_of types number (p ∷ parameters) = param_entry types number p ∷ scope_of types (number + 1) parameters

-- ---- faults

-- there is a type of the name
unfoldable pub type_fault : List TypeEntry → Name → Fault
type_fault types ty = need (is_some (type_named types ty.bytes)) kind.Unknown ty.place

unfoldable pub sort_fault : List TypeEntry → PredicateParameter → Fault
sort_fault types (parameter.Cell name ty) = type_fault types ty
sort_fault types (parameter.Set name ty) = type_fault types ty
sort_fault types (parameter.Bool name) = None

-- no parameter before has the name, and the type is there
unfoldable pub parameter_fault : List TypeEntry → List Entry → PredicateParameter → Fault
parameter_fault types before p = new_name_fault before (name_of p) >> sort_fault types p

-- parameters after those before them, in order
abbrev pub parameters_fault : List TypeEntry → List Entry → List PredicateParameter → Fault
parameters_fault types before [] = None
parameters_fault types before (p ∷ parameters) =
    parameter_fault types before p >> parameters_fault types (before ++ param_entry types (length before) p ∷ []) parameters
