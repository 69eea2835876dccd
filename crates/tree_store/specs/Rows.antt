-- What is looked up of a layout once: the children and the tracks of each type's fields, and the variable of each slot.
use Rattle.std.specs.Prelude.{◌≡◌, ℕ, ◌<◌, Bool, List, length, take, slice_get, count_by, Option, Some, None, Contains, if◌then◌else◌}
use Rattle.std.specs.Option.{option_and_then}
use Rattle.ws2s_core.specs.declared.track.Track.{Track}
use Rattle.store_core.specs.declared.ids.TypeId.{TypeId}
use Rattle.store_core.specs.declared.ids.FieldId.{FieldId}
use Rattle.store_core.specs.declared.ids.VarId.{VarId}
use Rattle.store_core.specs.Tables.{TypeEntry, VarEntry, fields_of}
use Rattle.tree_encode.specs.declared.counting.Counted.TheVariants.{Children}
use Rattle.tree_encode.specs.Counting.{is_counted, is_data_var}
use Rattle.tree_encode.specs.Tracks.{bool_track}
use Rattle.tree_store.specs.declared.rows.Row.{Row}
use Rattle.tree_store.specs.declared.rows.Rows.{Rows}

-- how many of those that count stand before the one at a place, where that one counts
abbrev pub number_in : {X : Type 0} → (X → Bool) → List X → ℕ → Option ℕ
number_in counts xs i = option_and_then (λ x. if counts x then Some (count_by counts (take i xs)) else None) (slice_get xs i)

-- the ys name those of the first n xs that count, each at its number
pub record AreNumbered {X Y : Type 0} (counts : X → Bool) (name : ℕ → Y) (xs : List X) (n : ℕ) (ys : List Y) : Type 0 where
  pub count : length ys ≡ count_by counts (take n xs)
  pub each : (j : ℕ) (y : Y) → slice_get ys j ≡ Some y → (i : ℕ) × (i < n) × (number_in counts xs i ≡ Some j) × (y ≡ name i)
  pub all : (i j : ℕ) → i < n → number_in counts xs i ≡ Some j → slice_get ys j ≡ Some (name i)

abbrev pub field_in : TypeId → ℕ → FieldId
field_in ty i = record { ty = ty; index = i }

abbrev pub var_number : ℕ → VarId
var_number i = record { 0 = i }

-- the bool fields among the first n of the type, with their tracks
pub record AreBools (types : List TypeEntry) (ty : TypeId) (n : ℕ) (bools : List (FieldId × Track)) : Type 0 where
  pub each : (f : FieldId) (t : Track) → Contains bools (f, t) → (f.ty ≡ ty) × (bool_track types f ≡ Some t)
  pub all : (i : ℕ) (t : Track) → i < n → bool_track types (field_in ty i) ≡ Some t → Contains bools (field_in ty i, t)

-- the data fields of the type, each at the number of its child, and its bool fields with their tracks
pub record IsRow (types : List TypeEntry) (ty : TypeId) (row : Row) : Type 0 where
  pub children : AreNumbered (is_counted Children) (field_in ty) (fields_of types ty) (length (fields_of types ty)) row.children
  pub bools : AreBools types ty (length (fields_of types ty)) row.bools

-- a row for each of the first n types
pub record AreRows (types : List TypeEntry) (n : ℕ) (rows : List Row) : Type 0 where
  pub count : length rows ≡ n
  pub each : (k : ℕ) (row : Row) → slice_get rows k ≡ Some row → IsRow types (record { 0 = k }) row

-- a row for each type, and the data variable of each slot
pub record IsRows (ts : List TypeEntry) (vs : List VarEntry) (rows : Rows) : Type 0 where
  pub types : AreRows ts (length ts) rows.types
  pub slots : AreNumbered is_data_var var_number vs (length vs) rows.slots
