-- The table of variables as it is kept, read as a list of variables.
use Rattle.std.specs.Prelude.{ℕ, List, map}
use Rattle.std.specs.declared.vec.Vec.{Vec}
use Rattle.std.specs.declared.alloc.Global.{Global}
use Rattle.store_core.specs.declared.kind.VarKind.{VarKind}
use Rattle.store_core.specs.Tables.{VarEntry}

-- a variable under its name
abbrev pub var_entry : Vec ℕ Global × VarKind → VarEntry
var_entry e = record { name = e.0.items; kind = e.1 }

abbrev pub vars_of : List (Vec ℕ Global × VarKind) → List VarEntry
vars_of vars = map var_entry vars
