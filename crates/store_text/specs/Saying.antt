-- What the lines of a store text add to what those before them have said.
use Rattle.std.specs.Prelude.{◌≡◌, ◌≢◌, ℕ, ◌==◌, List, [], ◌∷◌, ◌++◌, map, slice_get, slice_set, Option, Some, None, option_map, Result, Ok, Err}
use Rattle.std.specs.Prelude.{if◌then◌else◌, Bool, true, false}
use Rattle.std.specs.Option.{option_and_then}
use Rattle.std.specs.List.{list_any}
use Rattle.std.specs.Ordering.{nat_cmp}
use Rattle.std.specs.FinMap.{FinMap, insert, contains_key, empty}
use Rattle.std.specs.BTreeSet.{insert_key}
use Rattle.store_core.specs.declared.ids.TypeId.{TypeId}
use Rattle.store_core.specs.declared.ids.VariantId.{VariantId}
use Rattle.store_core.specs.declared.ids.FieldId.{FieldId}
use Rattle.store_core.specs.declared.ids.CellId.{CellId}
use Rattle.store_core.specs.declared.kind.FieldKind.{FieldKind}
use Rattle.store_core.specs.declared.kind.FieldKind.TheVariants as field
use Rattle.store_core.specs.declared.kind.VarKind.{VarKind}
use Rattle.store_core.specs.declared.kind.VarKind.TheVariants as var
use Rattle.store_core.specs.declared.value.Value.{Value}
use Rattle.store_core.specs.declared.value.Value.TheVariants as value
use Rattle.store_text.specs.declared.fault.StoreKind.{StoreKind}
use Rattle.store_text.specs.declared.fault.StoreKind.TheVariants.{UnknownName, WrongType, Repeated, Missing, NoMemory}
use Rattle.store_text.specs.declared.read.holds.Holds.{Holds}
use Rattle.store_text.specs.declared.read.holds.Holds.TheVariants as holds
use Rattle.store_text.specs.declared.read.holds.Mention.{Mention}
use Rattle.store_text.specs.declared.read.spelled.Spelled.{Spelled}
use Rattle.store_text.specs.declared.read.spelled.Spelled.TheVariants as spelled
use Rattle.store_text.specs.declared.read.spelled.Given.{Given}
use Rattle.store_text.specs.declared.read.spelled.CellLine.{CellLine}
use Rattle.store_core.specs.Tables.{TypeEntry, FieldEntry, VarEntry, fields_of, variants_of, field_at, var_at, type_named, field_named, var_named}
use Rattle.store_core.specs.Tables.{place_of, unnamed_of, has_field, is_had}
use Rattle.store_core.specs.Stores.{CellEntry}

infixl 10 ◌>>=◌
abbrev pub ◌>>=◌ : {A B : Type 0} → Result A StoreKind → (A → Result B StoreKind) → Result B StoreKind
(Ok x) >>= f = f x
(Err kind) >>= f = Err kind

-- what is there, or the fault where nothing is
abbrev pub or_fault : {A : Type 0} → StoreKind → Option A → Result A StoreKind
or_fault kind None = Err kind
or_fault kind (Some x) = Ok x

-- the fault is this one, unless memory ran out
abbrev pub IsStop : {A : Type 0} → Result A StoreKind → StoreKind → Type 0
IsStop said kind = kind ≢ NoMemory → said ≡ Err kind

-- nothing is there and the fault is `Missing`, unless memory ran out
abbrev pub IsLacking : {A : Type 0} → Option A → StoreKind → Type 0
IsLacking found kind = kind ≢ NoMemory → (kind ≡ Missing) × (found ≡ None)

-- what the lines so far have said: the cells, the value of each variable that a line has given, and where cells are named
pub record Said : Type 0 where
  pub cells : FinMap nat_cmp CellEntry
  pub vars : List (Option Value)
  pub mentions : List Mention

-- before the first line nothing is said
abbrev pub nothing_said : List VarEntry → Said
nothing_said vars = record { cells = empty; vars = map (λ v. None) vars; mentions = [] }

-- ---- values

-- what a field or a variable of this kind holds
abbrev pub field_holds : FieldKind → Holds
field_holds field.Bool = holds.Truth
field_holds (field.Data target) = holds.Reference target
field_holds (field.Pointer target along) = holds.Reference target

abbrev pub var_holds : VarKind → Holds
var_holds var.Bool = holds.Truth
var_holds (var.Data target) = holds.Reference target
var_holds (var.Pointer target) = holds.Reference target
var_holds (var.LogicSet target) = holds.Set target
var_holds var.LogicBool = holds.Truth

-- the members by number, those so far and then these in turn; none where one stands there again
abbrev pub members_after : List ℕ → List ℕ → Option (List ℕ)
members_after so_far [] = Some so_far
members_after so_far (n ∷ ns) = if list_any (λ m. m == n) so_far then None else members_after (insert_key nat_cmp so_far n) ns

-- cells by their numbers
abbrev pub cells_numbered : List ℕ → List CellId
cells_numbered numbers = map (λ n. record { 0 = n }) numbers

-- the set of these cells, by number; a member again is a fault
unfoldable pub set_of : List ℕ → Result Value StoreKind
set_of numbers = or_fault Repeated (option_map (λ members. value.Cells (cells_numbered members)) (members_after [] numbers))

-- the value where a value of this class may stand
unfoldable pub value_for : Holds → Spelled → Result Value StoreKind
value_for holds.Truth (spelled.Truth truth) = Ok (value.Bool truth)
value_for (holds.Reference target) spelled.Null = Ok (value.Cell None)
value_for (holds.Reference target) (spelled.Number n) = Ok (value.Cell (Some (record { 0 = n })))
value_for (holds.Set target) (spelled.Numbers numbers) = set_of numbers
value_for _ _ = Err WrongType

-- that a line names a cell where one of this type may stand
abbrev pub mention : ℕ → TypeId → CellId → Mention
mention line target c = record { line = line; target = target; cell = c }

-- where a value names cells
abbrev pub mentions_of : ℕ → Holds → Value → List Mention
mentions_of line (holds.Reference target) (value.Cell (Some c)) = mention line target c ∷ []
mentions_of line (holds.Set target) (value.Cells cells) = map (mention line target) cells
mentions_of line _ _ = []

-- ---- a line `var`

-- a value was given before
abbrev pub is_said : Option (Option Value) → Bool
is_said (Some (Some x)) = true
is_said _ = false

-- a variable's value: from the left the name is there, it is new, and the value is of its class
unfoldable pub say_var : List VarEntry → ℕ → Said → Given → Result Said StoreKind
say_var vars line said given = do
  v ← or_fault UnknownName (var_named vars given.name)
  kind ← or_fault UnknownName (option_map (λ entry. entry.kind) (var_at vars v))
  x ← (if is_said (slice_get said.vars v.0) then Err Repeated else value_for (var_holds kind) given.value)
  Ok (record { cells = said.cells; vars = slice_set said.vars v.0 (Some x); mentions = said.mentions ++ mentions_of line (var_holds kind) x })

-- ---- a line `cell`

-- the variant without a name, or the one of this name
abbrev pub variant_named : List TypeEntry → TypeId → Option (List ℕ) → Result VariantId StoreKind
variant_named types ty None = or_fault Missing (unnamed_of types ty)
variant_named types ty (Some name) = or_fault UnknownName (option_map (λ i. record { ty = ty; index = i }) (place_of name (variants_of types ty)))

-- the field of the variant that has this name
unfoldable pub field_had : List TypeEntry → VariantId → List ℕ → Result FieldId StoreKind
field_had types v name = do
  f ← or_fault UnknownName (field_named types v.ty name)
  if has_field types v f then Ok f else Err UnknownName

-- a field's value: from the left the variant has the field, it is new, and the value is of its class
unfoldable pub say_field : List TypeEntry → VariantId → List (Option Value) → Given → Result (List (Option Value)) StoreKind
say_field types v values given = do
  f ← field_had types v given.name
  kind ← or_fault UnknownName (option_map (λ entry. entry.kind) (field_at types f))
  x ← (if is_said (slice_get values f.index) then Err Repeated else value_for (field_holds kind) given.value)
  Ok (slice_set values f.index (Some x))

-- the values of these fields, from the left
abbrev pub say_fields : List TypeEntry → VariantId → List (Option Value) → List Given → Result (List (Option Value)) StoreKind
say_fields types v values [] = Ok values
say_fields types v values (given ∷ others) = say_field types v values given >>= (λ more. say_fields types v more others)

-- where a field's value names cells; none where the variant has the field and no value was given
abbrev pub named_by : ℕ → ℕ → FieldEntry → Option Value → Option (List Mention)
named_by line index f (Some x) = Some (mentions_of line (field_holds f.kind) x)
named_by line index f None = if is_had index f then None else Some []

-- where the fields name cells; none where one lacks
abbrev pub named_in : ℕ → ℕ → List FieldEntry → List (Option Value) → Option (List Mention)
named_in line index (f ∷ fs) (x ∷ xs) = option_and_then (λ named. option_map (λ more. named ++ more) (named_in line index fs xs)) (named_by line index f x)
named_in line index _ _ = Some []

-- the same of the field at a place
abbrev pub named_at : ℕ → ℕ → List FieldEntry → ℕ → Option Value → Option (List Mention)
named_at line index fields place x = option_and_then (λ f. named_by line index f x) (slice_get fields place)

-- a cell's variant with the values of its fields, and where they name cells
unfoldable pub cell_said : List TypeEntry → ℕ → CellLine → Result (CellEntry × List Mention) StoreKind
cell_said types line cell = do
  ty ← or_fault UnknownName (type_named types cell.ty)
  v ← variant_named types ty cell.variant
  values ← say_fields types v (map (λ f. None) (fields_of types v.ty)) cell.fields
  named ← or_fault Missing (named_in line v.index (fields_of types v.ty) values)
  Ok (record { variant = v; values = values }, named)

-- a cell: from the left its number is new, the type and the variant are there, each field is as `say_field` wants it, and no
-- field lacks
unfoldable pub say_cell : List TypeEntry → ℕ → Said → CellLine → Result Said StoreKind
say_cell types line said cell =
    if contains_key said.cells cell.number then Err Repeated
    else cell_said types line cell >>= (λ new. Ok (record { cells = insert said.cells cell.number new.0; vars = said.vars; mentions = said.mentions ++ new.1 }))
