-- How many of a type's fields, and of the variables, are of a kind.
use Rattle.std.specs.Prelude.{ℕ, Bool, true, false, List, take, count_by, sum_by}
use Rattle.store_core.specs.declared.ids.FieldId.{FieldId}
use Rattle.store_core.specs.declared.kind.FieldKind.{FieldKind}
use Rattle.store_core.specs.declared.kind.FieldKind.TheVariants as field
use Rattle.store_core.specs.declared.kind.VarKind.{VarKind}
use Rattle.store_core.specs.declared.kind.VarKind.TheVariants as var
use Rattle.store_core.specs.Tables.{TypeEntry, FieldEntry, VarEntry, fields_of, count_of_variants}
use Rattle.tree_encode.specs.declared.counting.Counted.{Counted}
use Rattle.tree_encode.specs.declared.counting.Counted.TheVariants.{Bools, Children}

-- the kind is one of those that are counted: bool fields, or data fields, which lead to children
abbrev pub counts : Counted → FieldKind → Bool
counts Bools field.Bool = true
counts Children (field.Data target) = true
counts _ _ = false

-- the field is one of those that are counted
abbrev pub is_counted : Counted → FieldEntry → Bool
is_counted what f = counts what f.kind

-- how many of the type's fields are counted
abbrev pub counted_in : Counted → TypeEntry → ℕ
counted_in what t = count_by (is_counted what) t.fields

-- how many of the counted fields of its type stand before the field
abbrev pub rank : Counted → List TypeEntry → FieldId → ℕ
rank what types f = count_by (is_counted what) (take f.index (fields_of types f.ty))

-- the variable is a data variable
abbrev pub is_data_kind : VarKind → Bool
is_data_kind (var.Data target) = true
is_data_kind _ = false

abbrev pub is_data_var : VarEntry → Bool
is_data_var v = is_data_kind v.kind

-- how many variants, and how many bool fields, the types have together
abbrev pub variants_in : List TypeEntry → ℕ
variants_in types = sum_by count_of_variants types

abbrev pub bools_in : List TypeEntry → ℕ
bools_in types = sum_by (counted_in Bools) types
