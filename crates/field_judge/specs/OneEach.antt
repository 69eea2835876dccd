-- The table with one data variable a type.
use Rattle.std.specs.Prelude.{ℕ, suc, List, [], ◌∷◌}
use Rattle.store_core.specs.declared.kind.VarKind.TheVariants as var
use Rattle.store_core.specs.Tables.{TypeEntry, VarEntry}

-- the data variable of the type with this number, named as the type
abbrev pub var_of : ℕ → TypeEntry → VarEntry
var_of n t = record { name = t.name; kind = var.Data (record { 0 = n }) }

-- those of the types, numbered from n on
abbrev pub vars_from : ℕ → List TypeEntry → List VarEntry
vars_from n [] = []
vars_from n (t ∷ ts) = var_of n t ∷ vars_from (suc n) ts

-- one data variable of each type, in the order of the types, and no other variable
abbrev pub type_vars : List TypeEntry → List VarEntry
type_vars types = vars_from 0 types
