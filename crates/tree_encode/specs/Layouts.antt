-- What a layout is of, and the numbers that it keeps.
use Rattle.std.specs.Prelude.{◌≡◌, ℕ, suc, ◌<◌, ◌^◌, List, length, take, count_by, slice_get, Some}
use Rattle.std.specs.List.{AllByRecursion}
use Rattle.store_core.specs.declared.ids.VariantId.{VariantId}
use Rattle.store_core.specs.Tables.{TypeEntry, VarEntry, KnowsVariant, KnowsVarKind}
use Rattle.tree_encode.specs.declared.index.First.{First}
use Rattle.tree_encode.specs.Counting.{is_data_var, variants_in, bools_in}
use Rattle.tree_encode.specs.Tracks.{track_count}
use Rattle.tree_encode.specs.Spaces.{spaces_in}

-- a layout: the types, the variables, and the variants of the cells that the code makes
pub record LaidOut : Type 0 where
  pub types : List TypeEntry
  pub vars : List VarEntry
  pub spares : List VariantId

-- the kinds of the variables name types of the table, and the spares are variants of it
pub record IsLaidOut (l : LaidOut) : Type 0 where
  pub vars : AllByRecursion (λ entry. KnowsVarKind l.types entry.kind) l.vars
  pub spares : AllByRecursion (KnowsVariant l.types) l.spares

-- the list has the values of f at the numbers below n, in order
pub record IsTabled {X : Type 0} (f : ℕ → X) (n : ℕ) (xs : List X) : Type 0 where
  pub count : length xs ≡ n
  pub each : (k : ℕ) → k < n → slice_get xs k ≡ Some (f k)

-- what stands before the type with this number
abbrev pub first_at : List TypeEntry → ℕ → First
first_at types k = record {
  variants = variants_in (take k types);
  bools = bools_in (take k types);
  spaces = spaces_in (take k types);
}

-- how many data variables stand before the variable with this number
abbrev pub slots_before : List VarEntry → ℕ → ℕ
slots_before vars k = count_by is_data_var (take k vars)

-- the numbers that a layout keeps: what stands before each type and behind all, and how many data variables stand before
-- each variable
pub record IsIndex (types : List TypeEntry) (vars : List VarEntry) (firsts : List First) (slots : List ℕ) : Type 0 where
  pub before : IsTabled (first_at types) (suc (length types)) firsts
  pub data_before : IsTabled (slots_before vars) (length vars) slots
  pub few : track_count types vars < 2 ^ 32
