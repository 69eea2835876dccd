-- Which tables and stores a store text can tell: the names are names of the language, and cells have numbers that a text may name.
use Rattle.std.specs.Prelude.{◌≡◌, ℕ, ◌≤◌, IsTrue, List, IfSome}
use Rattle.std.specs.List.{AllByRecursion}
use Rattle.std.specs.FinMap.{keys}
use Rattle.store_core.specs.declared.ids.CellId.{CellId}
use Rattle.store_core.specs.declared.value.Value.{Value}
use Rattle.store_core.specs.declared.value.Value.TheVariants as value
use Rattle.store_core.specs.Tables.{TypeEntry, VarEntry, field_names, var_names}
use Rattle.store_core.specs.Stores.{StoreMap, CellEntry, cell_of}
use Rattle.store_text.specs.Spelling.{is_name}
use Rattle.store_text.specs.Reading.{next_after}

-- each is a letter followed by letters, digits and `_`; a reserved word is one too
abbrev pub AreNames : List (List ℕ) → Type 0
AreNames names = AllByRecursion (λ name. IsTrue (is_name name)) names

-- a type, its variants and its fields have names of the language
pub record HasNames (t : TypeEntry) : Type 0 where
  pub name : IsTrue (is_name t.name)
  pub variants : AreNames t.variants
  pub fields : AreNames (field_names t.fields)

-- every type and every variable has names of the language
pub record HaveNames (types : List TypeEntry) (vars : List VarEntry) : Type 0 where
  pub of_types : AllByRecursion HasNames types
  pub of_vars : AreNames (var_names vars)

-- a number by which a text may name a cell
abbrev pub IsTellable : CellId → Type 0
IsTellable c = (1 ≤ c.0) × (c.0 ≤ 1000000)

-- a value names cells by such numbers alone
abbrev pub NamesTellable : Value → Type 0
NamesTellable (value.Bool b) = Unit {0}
NamesTellable (value.Cell c) = IfSome c IsTellable
NamesTellable (value.Cells cells) = AllByRecursion IsTellable cells

-- a cell has such a number, and its values name cells by such numbers
abbrev pub IsTellableCell : CellId → CellEntry → Type 0
IsTellableCell c cell = IsTellable c × AllByRecursion (λ x. IfSome x NamesTellable) cell.values

-- the store has and names cells by such numbers alone, and its next number is the one that the reader gives
pub record IsWritable (s : StoreMap) : Type 0 where
  pub cells : (c : CellId) → IfSome (cell_of s c) (IsTellableCell c)
  pub vars : AllByRecursion NamesTellable s.vars
  pub next : s.next ≡ next_after (keys s.cells)
