-- Quantifiers: what they bind, and their faults.
use Rattle.std.specs.Prelude.{Bool, true, List, [], ◌∷◌, ◌++◌, map, Option, None, is_some, unwrap_or, if◌then◌else◌}
use Rattle.pale_text.specs.declared.refusal.RefusalKind.TheVariants as kind
use Rattle.pale_syntax.specs.declared.tree.names.Name.{Name}
use Rattle.pale_syntax.specs.declared.tree.assertion.Quantifier.{Quantifier}
use Rattle.store_core.specs.declared.ids.TypeId.{TypeId}
use Rattle.store_core.specs.Tables.{TypeEntry, type_named}
use Rattle.pale_tables.specs.Faults.{Fault, need, ◌>>◌}
use Rattle.pale_terms.specs.declared.sort.Sort.{Sort}
use Rattle.pale_terms.specs.declared.sort.Sort.TheVariants as sort
use Rattle.pale_terms.specs.declared.scope.Origin.TheVariants as origin
use Rattle.pale_terms.specs.Visibles.{Entry}
use Rattle.pale_terms.specs.Scopes.{new_name_fault}

-- ---- what is bound; a type that isn't there, which is refused, counts as the first

-- the type of this name
unfoldable pub type_found : List TypeEntry → Quantifier → Option TypeId
type_found types q = type_named types q.ty.bytes

abbrev pub bound_type : List TypeEntry → Quantifier → TypeId
bound_type types q = unwrap_or (type_found types q) (record { 0 = 0 })

-- cells or sets of them
abbrev pub sort_of : Bool → TypeId → Sort
sort_of of_sets ty = if of_sets then sort.Set ty else sort.Cell ty

abbrev pub bound_entry : Sort → Name → Entry
bound_entry of x = record { name = x.bytes; visible = record { origin = origin.Quantifier; sort = of; may = true } }

-- what is governed sees all the names
abbrev pub inside : List TypeEntry → List Entry → Quantifier → List Entry
inside types scope q = scope ++ map (bound_entry (sort_of q.of_sets (bound_type types q))) q.names

-- ---- faults

-- each name isn't visible, nor among those before it
abbrev pub names_fault : Sort → List Entry → List Name → Fault
names_fault of scope [] = None
names_fault of scope (x ∷ names) = new_name_fault scope x >> names_fault of (scope ++ bound_entry of x ∷ []) names

-- the names come first, then the type
unfoldable pub quantifier_fault : List TypeEntry → List Entry → Quantifier → Fault
quantifier_fault types scope q =
    names_fault (sort_of q.of_sets (bound_type types q)) scope q.names >> need (is_some (type_found types q)) kind.Unknown q.ty.place
