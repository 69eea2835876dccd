-- When the sets of positions on a layout's tracks lay out a backbone, told by positions alone. (Klarlund and Schwartzbach
-- 1993: a backbone as a labelled tree.)
use Rattle.std.specs.Prelude.{◌≡◌, ◌↔◌, ◌⊎◌, ℕ, IsTrue, [], Some, IsSomeAnd, IfSome, List, unwrap_or}
use Rattle.gta_theory.specs.Assignments.{Position, Assignment}
use Rattle.ws2s_forms.specs.Places.{child_of, slot_of}
use Rattle.store_core.specs.declared.ids.TypeId.{TypeId}
use Rattle.store_core.specs.declared.ids.VariantId.{VariantId}
use Rattle.store_core.specs.declared.ids.FieldId.{FieldId}
use Rattle.store_core.specs.declared.ids.VarId.{VarId}
use Rattle.store_core.specs.declared.kind.FieldKind.TheVariants as field
use Rattle.store_core.specs.declared.kind.VarKind.{VarKind}
use Rattle.store_core.specs.declared.kind.VarKind.TheVariants as var
use Rattle.store_core.specs.Tables.{TypeEntry, VarEntry, field_at, var_at, has_field}
use Rattle.tree_encode.specs.Tracks.{variant_track, bool_track, var_track, slot_of_var, child_number}

-- ---- cells at positions

abbrev pub variant_in : TypeId → ℕ → VariantId
variant_in ty i = record { ty = ty; index = i }

-- the position is on the variant's track: a cell of the variant stands there
abbrev pub IsCellOf : List TypeEntry → Assignment → VariantId → Position → Type 0
IsCellOf types a v p = IsSomeAnd (variant_track types v) (λ t. IsTrue (a t.0 p))

-- a cell of the type stands at the position
pub record IsCellIn (types : List TypeEntry) (a : Assignment) (ty : TypeId) (p : Position) : Type 0 where
  pub index : ℕ
  pub here : IsCellOf types a (variant_in ty index) p

-- a cell that has the field stands at the position
pub record HasFieldAt (types : List TypeEntry) (a : Assignment) (f : FieldId) (p : Position) : Type 0 where
  pub index : ℕ
  pub has : IsTrue (has_field types (variant_in f.ty index) f)
  pub here : IsCellOf types a (variant_in f.ty index) p

-- the position is on the bool field's track: the field is true there
abbrev pub IsTrueAt : List TypeEntry → Assignment → FieldId → Position → Type 0
IsTrueAt types a f p = IsSomeAnd (bool_track types f) (λ t. IsTrue (a t.0 p))

-- ---- where cells may stand

-- the position is the slot of a data variable of the type
pub record IsSlotFor (vars : List VarEntry) (ty : TypeId) (p : Position) : Type 0 where
  pub variable : VarId
  pub kind : IsSomeAnd (var_at vars variable) (λ entry. entry.kind ≡ var.Data ty)
  pub slot : ℕ
  pub number : slot_of_var vars variable ≡ Some slot
  pub position : p ≡ slot_of slot

-- the position is a child of a cell: that of a data field which the cell has, with the type as target
pub record IsChildFor (types : List TypeEntry) (a : Assignment) (ty : TypeId) (p : Position) : Type 0 where
  pub along : FieldId
  pub kind : IsSomeAnd (field_at types along) (λ entry. entry.kind ≡ field.Data ty)
  pub child : ℕ
  pub number : child_number types along ≡ Some child
  pub parent : Position
  pub has : HasFieldAt types a along parent
  pub position : p ≡ child_of child parent

-- ---- what is on the track of a variable

-- on a bool's track at most the root
abbrev pub HasRootAtMost : Assignment → ℕ → Type 0
HasRootAtMost a x = (p : Position) → IsTrue (a x p) → p ≡ []

-- on the track cells of the type alone
abbrev pub HasCellsIn : List TypeEntry → Assignment → TypeId → ℕ → Type 0
HasCellsIn types a ty x = (p : Position) → IsTrue (a x p) → IsCellIn types a ty p

-- on the track of a data variable the cell of the type in its slot, where one stands there; on that of a pointer variable
-- at most one cell of the type; on that of a logic set cells of the type
abbrev pub VarLaysOut : List TypeEntry → Assignment → ℕ → ℕ → VarKind → Type 0
VarLaysOut types a slot x var.Bool = HasRootAtMost a x
VarLaysOut types a slot x (var.Data ty) = (p : Position) → IsTrue (a x p) ↔ ((p ≡ slot_of slot) × IsCellIn types a ty p)
VarLaysOut types a slot x (var.Pointer ty) =
    HasCellsIn types a ty x × ((p q : Position) → IsTrue (a x p) → IsTrue (a x q) → p ≡ q)
VarLaysOut types a slot x (var.LogicSet ty) = HasCellsIn types a ty x
VarLaysOut types a slot x var.LogicBool = HasRootAtMost a x

-- ---- all together

-- on the layout's tracks the assignment lays out a backbone: each cell stands in a slot of its type or is a child of a
-- cell, no two variants of a type share a position, a bool field is true where a cell has it alone, and each variable's
-- track has what its kind allows
pub record LaysOut (types : List TypeEntry) (vars : List VarEntry) (a : Assignment) : Type 0 where
  pub placed : (ty : TypeId) (p : Position) → IsCellIn types a ty p → IsSlotFor vars ty p ⊎ IsChildFor types a ty p
  pub apart : (v w : VariantId) (p : Position) → v.ty ≡ w.ty → IsCellOf types a v p → IsCellOf types a w p → v ≡ w
  pub bools : (f : FieldId) (p : Position) → IsTrueAt types a f p → HasFieldAt types a f p
  pub variables : (v : VarId) → IfSome (var_at vars v) (λ entry. IfSome (var_track types vars v) (λ x.
      VarLaysOut types a (unwrap_or (slot_of_var vars v) 0) x.0 entry.kind))
