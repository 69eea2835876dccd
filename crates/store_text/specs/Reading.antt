-- Which store a text spells, or which line has the first fault.
use Rattle.std.specs.Prelude.{IfSome, ◌≡◌, ◌≢◌, ℕ, ◌+◌, ◌==◌, not, max, Bool, false, List, [], ◌∷◌, Option, Some, None, Result, Ok, Err, if◌then◌else◌, codes}
use Rattle.std.specs.Option.{option_map_or}
use Rattle.std.specs.List.{find, AllByRecursion}
use Rattle.std.specs.Str.{bytes_eq}
use Rattle.std.specs.FinMap.{keys}
use Rattle.store_core.specs.declared.ids.CellId.{CellId}
use Rattle.store_core.specs.declared.value.Value.{Value}
use Rattle.store_text.specs.declared.fault.StoreKind.{StoreKind}
use Rattle.store_text.specs.declared.fault.StoreKind.TheVariants as kind
use Rattle.store_text.specs.declared.fault.StoreFault.{StoreFault}
use Rattle.store_text.specs.declared.read.holds.Mention.{Mention}
use Rattle.store_text.specs.declared.read.spelled.Line.{Line}
use Rattle.store_text.specs.declared.read.spelled.Line.TheVariants as line
use Rattle.store_core.specs.Tables.{TypeEntry, VarEntry}
use Rattle.store_core.specs.Stores.{StoreMap, cell_of, NamesBelow}
use Rattle.store_text.specs.Lines.{lines_of}
use Rattle.store_text.specs.Spelling.{line_of, all_of}
use Rattle.store_text.specs.Saying.{Said, nothing_said, say_var, say_cell}

-- ---- the store that was said

-- one above the greatest number, and 1 where there is none
abbrev pub next_after : List ℕ → ℕ
next_after [] = 1
next_after (n ∷ ns) = max (n + 1) (next_after ns)

-- the cells and the variables' values as a store
abbrev pub store_said : Said → List Value → StoreMap
store_said said values = record { cells = said.cells; vars = values; next = next_after (keys said.cells) }

-- the cell named is live and of another type
abbrev pub is_misnamed : StoreMap → Mention → Bool
is_misnamed store m = option_map_or (λ cell. not (cell.variant.ty.0 == m.target.0)) (cell_of store m.cell) false

-- the store, where no cell of another type is named in it
unfoldable pub checked : StoreMap → List Mention → Result StoreMap StoreFault
checked store mentions = option_map_or (λ m. Err (record { line = m.line; kind = kind.WrongType })) (find (is_misnamed store) mentions) (Ok store)

-- ---- the lines

abbrev pub fault_at : ℕ → StoreKind → Result StoreMap StoreFault
fault_at n kind = Err (record { line = n; kind = kind })

-- after the line `end` nothing follows, and the cells named are of their types
unfoldable pub after_end : ℕ → StoreMap → List Mention → List (List ℕ) → Result StoreMap StoreFault
after_end n store mentions [] = checked store mentions
after_end n store mentions (line ∷ lines) = fault_at (n + 1) kind.Syntax

-- at the line `end` every variable has a value
unfoldable pub read_end : ℕ → Said → List (List ℕ) → Result StoreMap StoreFault
read_end n said after =
    option_map_or (λ values. after_end n (store_said said values) said.mentions after) (all_of (λ x. x) said.vars) (fault_at n kind.Missing)

-- what a line `var` or `cell` adds to what was said
unfoldable pub say_line : List TypeEntry → List VarEntry → ℕ → Said → Option Line → Result Said StoreKind
say_line types vars n said None = Err kind.Syntax
say_line types vars n said (Some (line.Var given)) = say_var vars n said given
say_line types vars n said (Some (line.Cell cell)) = say_cell types n said cell

-- what follows a line, or the fault at it
abbrev pub at_line : ℕ → Result Said StoreKind → (Said → Result StoreMap StoreFault) → Result StoreMap StoreFault
at_line n (Ok said) follows = follows said
at_line n (Err kind) follows = fault_at n kind

-- the lines from the one with this number on, after what was said
unfoldable pub read_lines : List TypeEntry → List VarEntry → ℕ → Said → List (List ℕ) → Result StoreMap StoreFault
read_lines types vars n said [] = fault_at n kind.Missing
read_lines types vars n said (line ∷ lines) =
    if bytes_eq line (codes "end") then read_end n said lines
    else at_line n (say_line types vars n said (line_of line)) (λ more. read_lines types vars (n + 1) more lines)

-- the first line is `store`
unfoldable pub read_text : List TypeEntry → List VarEntry → List (List ℕ) → Result StoreMap StoreFault
read_text types vars [] = fault_at 1 kind.Missing
read_text types vars (line ∷ lines) =
    if bytes_eq line (codes "store") then read_lines types vars 2 (nothing_said vars) lines else fault_at 1 kind.Syntax

-- the store that a text spells, or its first fault
unfoldable pub reading : List TypeEntry → List VarEntry → List ℕ → Result StoreMap StoreFault
reading types vars text = read_text types vars (lines_of text)

-- the fault is this one, unless memory ran out
abbrev pub IsFaultOf : Result StoreMap StoreFault → StoreFault → Type 0
IsFaultOf read fault = fault.kind ≢ kind.NoMemory → read ≡ Err fault

-- the fault is the text's first, unless memory ran out
abbrev pub IsFault : List TypeEntry → List VarEntry → List ℕ → StoreFault → Type 0
IsFault types vars text fault = IsFaultOf (reading types vars text) fault

-- ---- what a text may name

-- every value of a live cell and of a variable names cells below this number alone
pub record NamesAllBelow (n : ℕ) (s : StoreMap) : Type 0 where
  pub values : (c : CellId) → IfSome (cell_of s c) (λ cell. AllByRecursion (λ x. IfSome x (NamesBelow n)) cell.values)
  pub vars : AllByRecursion (NamesBelow n) s.vars
