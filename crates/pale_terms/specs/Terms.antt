-- Paths and terms: what they stand for, and their faults, parts from the left.
use Rattle.std.specs.Prelude.{ℕ, nat_le, ◌&&◌, ◌==◌, Bool, true, List, [], ◌∷◌, length, Option, None, option_map, is_some, unwrap_or}
use Rattle.std.specs.Option.{option_map_or, option_and_then}
use Rattle.pale_text.specs.declared.place.Pos.{Pos}
use Rattle.pale_text.specs.declared.refusal.RefusalKind.TheVariants as kind
use Rattle.pale_syntax.specs.declared.tree.names.Name.{Name}
use Rattle.pale_syntax.specs.declared.tree.names.Path.{Path}
use Rattle.pale_syntax.specs.declared.tree.names.Term as source
use Rattle.pale_syntax.specs.declared.tree.names.Term.TheVariants as source_term
use Rattle.store_core.specs.declared.ids.FieldId.{FieldId}
use Rattle.store_core.specs.declared.ids.TypeId.{TypeId}
use Rattle.store_core.specs.declared.ids.VariantId.{VariantId}
use Rattle.store_core.specs.Tables.{TypeEntry, field_named, field_at, variants_of, place_of}
use Rattle.store_logic.specs.declared.term.Term.{Term}
use Rattle.store_logic.specs.declared.term.Term.TheVariants as term
use Rattle.pale_tables.specs.Faults.{Fault, need, ◌>>◌}
use Rattle.pale_terms.specs.declared.sort.Sort.{Sort}
use Rattle.pale_terms.specs.declared.sort.Sort.TheVariants as sort
use Rattle.pale_terms.specs.declared.terms.TypedPath.{TypedPath}
use Rattle.pale_terms.specs.declared.terms.TypedTerm.{TypedTerm}
use Rattle.pale_terms.specs.declared.terms.TypedTerm.TheVariants as typed
use Rattle.pale_terms.specs.Sorts.{held, is_cell, cell_of, are_of_one_type}
use Rattle.pale_terms.specs.Scopes.{meaning_of, base_fault, set_fault}
use Rattle.pale_terms.specs.Visibles.{Entry}

-- ---- what a path stands for; what is refused counts as the first field, or as a truth value

-- the field of this name that a cell of this sort has
abbrev pub field_under : List TypeEntry → Sort → List ℕ → Option FieldId
field_under types sort.Truth f = None
field_under types (sort.Cell ty) f = field_named types ty f
field_under types (sort.Set ty) f = None

unfoldable pub typed_field : List TypeEntry → Sort → Name → FieldId
typed_field types from f = unwrap_or (field_under types from f.bytes) (record { ty = record { 0 = 0 }; index = 0 })

-- what a field leads to
unfoldable pub sort_behind : List TypeEntry → FieldId → Sort
sort_behind types field = option_map_or (λ entry. held entry.kind) (field_at types field) sort.Truth

-- the fields of these names, each of the cell that stands before it
abbrev pub typed_fields : List TypeEntry → Sort → List Name → List FieldId
typed_fields types from [] = []
typed_fields types from (f ∷ fields) = typed_field types from f ∷ typed_fields types (sort_behind types (typed_field types from f)) fields

-- what they lead to
abbrev pub sort_along : List TypeEntry → Sort → List Name → Sort
sort_along types from [] = from
sort_along types from (f ∷ fields) = sort_along types (sort_behind types (typed_field types from f)) fields

-- `x.f.g`
unfoldable pub typed_path : List TypeEntry → List Entry → Path → TypedPath
typed_path types scope p = record {
  base = (meaning_of scope p.base).base;
  fields = typed_fields types (meaning_of scope p.base).sort p.fields;
  sort = sort_along types (meaning_of scope p.base).sort p.fields;
}

-- `null` or a path
unfoldable pub typed_term : List TypeEntry → List Entry → source.Term → TypedTerm
typed_term types scope (source_term.Null place) = typed.Null
typed_term types scope (source_term.Path p) = typed.Path (typed_path types scope p)

-- the term of an assertion
abbrev pub term_at : TypedPath → Term
term_at p = term.At p.base p.fields

abbrev pub term_in : TypedTerm → Term
term_in typed.Null = term.Null
term_in (typed.Path p) = term_at p

-- ---- what a term is

-- null or a cell
abbrev pub is_reference : TypedTerm → Bool
is_reference typed.Null = true
is_reference (typed.Path p) = is_cell p.sort

-- the type of the cell to which it is a path
abbrev pub cell_type : TypedTerm → Option TypeId
cell_type typed.Null = None
cell_type (typed.Path p) = cell_of p.sort

-- cells of one type, or null
abbrev pub are_alike : TypedTerm → TypedTerm → Bool
are_alike typed.Null other = is_reference other
are_alike (typed.Path p) typed.Null = is_cell p.sort
are_alike (typed.Path p) (typed.Path q) = is_cell p.sort && (is_cell q.sort && are_of_one_type p.sort q.sort)

-- the named variant of a type
abbrev pub variant_under : List TypeEntry → Option TypeId → List ℕ → Option VariantId
variant_under types ty v = option_and_then (λ t. option_map (λ i. record { ty = t; index = i }) (place_of v (variants_of types t))) ty

-- `t : v`: the term and the variant
unfoldable pub variant_test : List TypeEntry → List Entry → source.Term → Name → TypedTerm × VariantId
variant_test types scope t v =
    (typed_term types scope t, unwrap_or (variant_under types (cell_type (typed_term types scope t)) v.bytes) (record { ty = record { 0 = 0 }; index = 0 }))

-- ---- faults

-- a field: what stands before it is a cell, and its type has the field
unfoldable pub field_fault : List TypeEntry → Sort → Name → Fault
field_fault types from f = need (is_cell from) kind.Type f.place >> need (is_some (field_under types from f.bytes)) kind.Unknown f.place

abbrev pub fields_fault : List TypeEntry → Sort → List Name → Fault
fields_fault types from [] = None
fields_fault types from (f ∷ fields) = field_fault types from f >> fields_fault types (sort_behind types (typed_field types from f)) fields

-- a path has at most 1,024 fields, whatever it names, else it is refused at its first token
abbrev pub length_fault : Path → Fault
length_fault p = need (nat_le (length p.fields) 1024) kind.LongPath p.base.place

unfoldable pub path_fault : List TypeEntry → List Entry → Path → Fault
path_fault types scope p = length_fault p >> base_fault scope p.base >> fields_fault types (meaning_of scope p.base).sort p.fields

unfoldable pub term_fault : List TypeEntry → List Entry → source.Term → Fault
term_fault types scope (source_term.Null place) = None
term_fault types scope (source_term.Path p) = path_fault types scope p

-- null or a cell, else refused at the operator
unfoldable pub reference_fault : List TypeEntry → List Entry → source.Term → Pos → Fault
reference_fault types scope t operator = term_fault types scope t >> need (is_reference (typed_term types scope t)) kind.Type operator

-- both sides of `=`, `~=`, `==` or `!=`: a truth value on the left is refused before the right is looked at
unfoldable pub compared_fault : List TypeEntry → List Entry → source.Term → Pos → source.Term → Fault
compared_fault types scope t operator u =
    reference_fault types scope t operator
    >> term_fault types scope u >> need (are_alike (typed_term types scope t) (typed_term types scope u)) kind.Type operator

-- a path to a cell, else refused at the operator
unfoldable pub cell_fault : List TypeEntry → List Entry → source.Term → Pos → Fault
cell_fault types scope t operator = term_fault types scope t >> need (is_some (cell_type (typed_term types scope t))) kind.Type operator

-- `t : v`: a path to a cell, whose type has the variant
unfoldable pub variant_test_fault : List TypeEntry → List Entry → source.Term → Pos → Name → Fault
variant_test_fault types scope t colon v =
    cell_fault types scope t colon >> need (is_some (variant_under types (cell_type (typed_term types scope t)) v.bytes)) kind.Unknown v.place

-- the name of a set, where the text has a path
unfoldable pub set_path_fault : List Entry → Path → Fault
set_path_fault scope p = length_fault p >> set_fault scope p.base >> need (length p.fields == 0) kind.Kind p.base.place
