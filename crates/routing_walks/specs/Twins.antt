-- A pointer field that isn't functional: its route leads to two cells of a backbone.
use Rattle.std.specs.Prelude.{List, [], ◌∷◌, Option, Some, None}
use Rattle.std.specs.FinMap.{from_sorted}
use Rattle.std.specs.Ordering.{nat_cmp}
use Rattle.store_core.specs.declared.ids.TypeId.{TypeId}
use Rattle.store_core.specs.declared.ids.FieldId.{FieldId}
use Rattle.store_core.specs.declared.ids.CellId.{CellId}
use Rattle.store_core.specs.declared.kind.FieldKind.TheVariants as field
use Rattle.store_core.specs.declared.kind.VarKind.TheVariants as var
use Rattle.store_core.specs.declared.kind.Route.TheVariants as route
use Rattle.store_core.specs.declared.value.Value.TheVariants as value
use Rattle.store_core.specs.Tables.{TypeEntry, VarEntry}
use Rattle.store_core.specs.Stores.{StoreMap, CellEntry}

-- the one type
abbrev pub twin_type : TypeId
twin_type = record { 0 = 0 }

-- type T with data fields l and r of T, and with a pointer field p to T along the route l+r
abbrev pub twin_types : List TypeEntry
twin_types = record {
  name = 84 ∷ [];
  variants = [];
  fields =
      record { name = 108 ∷ []; only = None; kind = field.Data twin_type }
      ∷ record { name = 114 ∷ []; only = None; kind = field.Data twin_type }
      ∷ record { name = 112 ∷ []; only = None; kind = field.Pointer twin_type (route.Or (route.Down (108 ∷ [])) (route.Down (114 ∷ []))) }
      ∷ [];
} ∷ []

-- the pointer field p
abbrev pub twin_field : FieldId
twin_field = record { ty = twin_type; index = 2 }

-- the data variable x of T
abbrev pub twin_vars : List VarEntry
twin_vars = record { name = 120 ∷ []; kind = var.Data twin_type } ∷ []

-- a cell of T with these values for l and r, and with null for p
abbrev pub twin_cell : Option CellId → Option CellId → CellEntry
twin_cell left right = record {
  variant = record { ty = twin_type; index = 0 };
  values = Some (value.Cell left) ∷ Some (value.Cell right) ∷ Some (value.Cell None) ∷ [];
}

-- cell 1, which x names, has cell 2 for l and cell 3 for r; cells 2 and 3 have null
abbrev pub twin_store : StoreMap
twin_store = record {
  cells = from_sorted {R = nat_cmp} ((1, twin_cell (Some (record { 0 = 2 })) (Some (record { 0 = 3 }))) ∷ (2, twin_cell None None) ∷
      (3, twin_cell None None) ∷ []);
  vars = value.Cell (Some (record { 0 = 1 })) ∷ [];
  next = 4;
}
