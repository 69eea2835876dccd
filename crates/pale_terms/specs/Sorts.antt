-- Sorts: what a name, a path or an argument stands for.
use Rattle.std.specs.Prelude.{◌==◌, Bool, true, false, Option, Some, None}
use Rattle.std.specs.Option.{option_map_or}
use Rattle.store_core.specs.declared.ids.TypeId.{TypeId}
use Rattle.store_core.specs.declared.kind.FieldKind.{FieldKind}
use Rattle.store_core.specs.declared.kind.FieldKind.TheVariants as field
use Rattle.store_core.specs.declared.kind.VarKind.{VarKind}
use Rattle.store_core.specs.declared.kind.VarKind.TheVariants as var
use Rattle.pale_terms.specs.declared.sort.Sort.{Sort}
use Rattle.pale_terms.specs.declared.sort.Sort.TheVariants as sort

-- what a field holds
abbrev pub held : FieldKind → Sort
held field.Bool = sort.Truth
held (field.Data target) = sort.Cell target
held (field.Pointer target along) = sort.Cell target

-- what a variable holds
abbrev pub kept : VarKind → Sort
kept var.Bool = sort.Truth
kept (var.Data target) = sort.Cell target
kept (var.Pointer target) = sort.Cell target
kept (var.LogicSet target) = sort.Set target
kept var.LogicBool = sort.Truth

abbrev pub is_truth : Sort → Bool
is_truth sort.Truth = true
is_truth (sort.Cell ty) = false
is_truth (sort.Set ty) = false

abbrev pub is_cell : Sort → Bool
is_cell sort.Truth = false
is_cell (sort.Cell ty) = true
is_cell (sort.Set ty) = false

abbrev pub is_set : Sort → Bool
is_set sort.Truth = false
is_set (sort.Cell ty) = false
is_set (sort.Set ty) = true

-- the type of the cell
abbrev pub cell_of : Sort → Option TypeId
cell_of sort.Truth = None
cell_of (sort.Cell ty) = Some ty
cell_of (sort.Set ty) = None

-- the type of the cell, or of those in the set
abbrev pub cells_of : Sort → Option TypeId
cells_of sort.Truth = None
cells_of (sort.Cell ty) = Some ty
cells_of (sort.Set ty) = Some ty

-- both have cells of one type, be they cells or sets
abbrev pub are_of_one_type : Sort → Sort → Bool
are_of_one_type one other = option_map_or (λ ty. option_map_or (λ u. ty.0 == u.0) (cells_of other) false) (cells_of one) false
