-- Visible names as they are kept, read as a list.
use Rattle.std.specs.Prelude.{ℕ, List, map}
use Rattle.std.specs.declared.vec.Vec.{Vec}
use Rattle.std.specs.declared.alloc.Global.{Global}
use Rattle.pale_terms.specs.declared.scope.Visible.{Visible}

-- a name and what is visible under it
pub record Entry : Type 0 where
  pub name : List ℕ
  pub visible : Visible

abbrev pub entry_of : Vec ℕ Global × Visible → Entry
entry_of e = record { name = e.0.items; visible = e.1 }

abbrev pub entries_of : List (Vec ℕ Global × Visible) → List Entry
entries_of entries = map entry_of entries
