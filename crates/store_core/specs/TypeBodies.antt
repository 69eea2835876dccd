-- The table of types as it is kept, read as a list of types.
use Rattle.std.specs.Prelude.{◌≡◌, ℕ, ◌≤◌, List, length, map, Some}
use Rattle.std.specs.declared.vec.Vec.{Vec}
use Rattle.std.specs.declared.alloc.Global.{Global}
use Rattle.store_core.specs.declared.ids.TypeId.{TypeId}
use Rattle.store_core.specs.declared.types.TypeBody.{TypeBody}
use Rattle.store_core.specs.declared.types.FieldBody.{FieldBody}
use Rattle.store_core.specs.Tables.{TypeEntry, FieldEntry, type_at}

-- a field under its name
abbrev pub field_entry : Vec ℕ Global × FieldBody → FieldEntry
field_entry e = record { name = e.0.items; only = e.1.only; kind = e.1.kind }

-- a type of this name
abbrev pub body_entry : List ℕ → TypeBody → TypeEntry
body_entry name body = record { name = name; variants = map (λ v. v.0.items) body.variants.entries; fields = map field_entry body.fields.entries }

-- a type under its name
abbrev pub type_entry : Vec ℕ Global × TypeBody → TypeEntry
type_entry e = body_entry e.0.items e.1

abbrev pub entries_of : List (Vec ℕ Global × TypeBody) → List TypeEntry
entries_of types = map type_entry types

-- the body is that of the type with this number
pub record IsBodyOf (types : List TypeEntry) (ty : TypeId) (body : TypeBody) : Type 0 where
  pub name : List ℕ
  pub at : type_at types ty ≡ Some (body_entry name body)
  pub few_variants : length body.variants.entries ≤ 16
  pub few_fields : length body.fields.entries ≤ 32
