-- Assignments and `free`: what they are typed as, and their faults, parts from the left.
use Rattle.std.specs.Prelude.{◌&&◌, Bool, true, false, List, Option, Some, None, is_some, unwrap_or, if◌then◌else◌}
use Rattle.std.specs.Option.{option_map_or}
use Rattle.pale_text.specs.declared.place.Pos.{Pos}
use Rattle.pale_text.specs.declared.refusal.RefusalKind.TheVariants as kind
use Rattle.pale_syntax.specs.declared.tree.names.Name.{Name}
use Rattle.pale_syntax.specs.declared.tree.names.Path.{Path}
use Rattle.pale_syntax.specs.declared.tree.names.Term as source
use Rattle.pale_syntax.specs.declared.tree.condition.Condition.{Condition, out-Condition}
use Rattle.pale_syntax.specs.declared.tree.condition.Condition.TheOpen.{Condition-F}
use Rattle.pale_syntax.specs.declared.tree.statement.Value.{Value}
use Rattle.pale_syntax.specs.declared.tree.statement.Value.TheVariants as value
use Rattle.store_core.specs.declared.ids.TypeId.{TypeId}
use Rattle.store_core.specs.declared.ids.VariantId.{VariantId}
use Rattle.store_core.specs.Tables.{TypeEntry, type_named, unnamed_of}
use Rattle.store_logic.specs.declared.path.Operand.{Operand}
use Rattle.store_logic.specs.declared.path.Operand.TheVariants as operand
use Rattle.store_logic.specs.declared.act.Act.{Act}
use Rattle.store_logic.specs.declared.act.Act.TheVariants as act
use Rattle.store_logic.specs.declared.act.Rhs.{Rhs}
use Rattle.store_logic.specs.declared.act.Rhs.TheVariants as rhs
use Rattle.pale_tables.specs.Faults.{Fault, need, ◌>>◌}
use Rattle.pale_terms.specs.declared.sort.Sort.{Sort}
use Rattle.pale_terms.specs.declared.sort.Sort.TheVariants as sort
use Rattle.pale_terms.specs.declared.scope.Meaning.{Meaning}
use Rattle.pale_terms.specs.declared.terms.TypedTerm.{TypedTerm}
use Rattle.pale_terms.specs.declared.terms.TypedTerm.TheVariants as typed
use Rattle.pale_terms.specs.Sorts.{is_truth, is_cell, are_of_one_type}
use Rattle.pale_terms.specs.Visibles.{Entry}
use Rattle.pale_terms.specs.Scopes.{meaning_of, visible_fault}
use Rattle.pale_terms.specs.Terms.{typed_path, typed_term, variant_under, path_fault, term_fault}
use Rattle.pale_acts.specs.Operands.{var_in, path_in, operand_in}
use Rattle.pale_acts.specs.Conditions.{condition_fault, typed_condition}

-- ---- `new T` and `new T:v`

-- the variant without a name, or the named one
abbrev pub variant_named : List TypeEntry → TypeId → Option Name → Option VariantId
variant_named types ty None = unnamed_of types ty
variant_named types ty (Some v) = variant_under types (Some ty) v.bytes

-- a type with named variants needs one, which it has
unfoldable pub variant_fault : List TypeEntry → TypeId → Name → Option Name → Fault
variant_fault types ty name None = need (is_some (variant_named types ty None)) kind.Kind name.place
variant_fault types ty name (Some v) = need (is_some (variant_named types ty (Some v))) kind.Unknown v.place

-- what is refused counts as the first
unfoldable pub variant_of : List TypeEntry → TypeId → Option Name → VariantId
variant_of types ty v = unwrap_or (variant_named types ty v) (record { ty = record { 0 = 0 }; index = 0 })

unfoldable pub type_of : List TypeEntry → Name → TypeId
type_of types ty = unwrap_or (type_named types ty.bytes) (record { 0 = 0 })

unfoldable pub new_type_fault : List TypeEntry → Name → Fault
new_type_fault types ty = need (is_some (type_named types ty.bytes)) kind.Unknown ty.place

-- for a place of cells of the type
unfoldable pub new_fault : List TypeEntry → Sort → Pos → Name → Option Name → Fault
new_fault types of word ty v =
    need (is_cell of) kind.Type word >> new_type_fault types ty
    >> need (are_of_one_type of (sort.Cell (type_of types ty))) kind.Type word >> variant_fault types (type_of types ty) ty v

unfoldable pub new_of : List TypeEntry → Name → Option Name → VariantId
new_of types ty v = variant_of types (type_of types ty) v

-- ---- what a place of cells gets

-- the term of a condition that is a term alone, in parentheses or not
abbrev pub alone_in : Condition-F Condition → Option source.Term
alone_in (Condition-F.Truth t) = Some t
alone_in other = None

abbrev pub term_alone : Condition → Option source.Term
term_alone c = alone_in (out-Condition c)

-- null, or a cell of the type of the place
abbrev pub is_value_for : Sort → TypedTerm → Bool
is_value_for of typed.Null = true
is_value_for of (typed.Path p) = is_cell p.sort && are_of_one_type of p.sort

-- that it is a term is seen first, at its first token
unfoldable pub cell_fault : List TypeEntry → List Entry → Sort → Pos → Condition → Fault
cell_fault types scope of first c =
    option_map_or (λ t. term_fault types scope t >> need (is_value_for of (typed_term types scope t)) kind.Type first)
    (term_alone c) (need false kind.Type first)

unfoldable pub cell_of : List TypeEntry → List Entry → Condition → Operand
cell_of types scope c = option_map_or (λ t. operand_in (typed_term types scope t)) (term_alone c) operand.Null

-- ---- assignments

-- a truth value gets a condition
unfoldable pub value_fault : List TypeEntry → List Entry → Sort → Value → Fault
value_fault types scope of (value.New word ty v) = new_fault types of word ty v
value_fault types scope of (value.Condition first c) = if is_truth of then condition_fault types scope c else cell_fault types scope of first c

unfoldable pub value_of : List TypeEntry → List Entry → Sort → Value → Rhs
value_of types scope of (value.New word ty v) = rhs.New (new_of types ty v)
value_of types scope of (value.Condition first c) = if is_truth of then rhs.Truth (typed_condition types scope c) else rhs.Cell (cell_of types scope c)

-- the place, and then what is assigned
unfoldable pub assignment_fault : List TypeEntry → List Entry → Path → Value → Fault
assignment_fault types scope p v = path_fault types scope p >> value_fault types scope (typed_path types scope p).sort v

unfoldable pub assignment_of : List TypeEntry → List Entry → Path → Value → Act
assignment_of types scope p v = act.Assign (path_in (typed_path types scope p)) (value_of types scope (typed_path types scope p).sort v)

-- ---- `free x`

-- a data or pointer variable that the place may name
abbrev pub may_be_freed : Meaning → Bool
may_be_freed m = m.may && is_cell m.sort

unfoldable pub free_fault : List Entry → Name → Fault
free_fault scope x = visible_fault scope x >> need (may_be_freed (meaning_of scope x)) kind.Kind x.place

unfoldable pub free_of : List Entry → Name → Act
free_of scope x = act.Free (var_in (meaning_of scope x).base)
