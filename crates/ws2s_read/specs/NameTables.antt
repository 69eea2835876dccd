-- The table of visible names as it is kept, read as a list.
use Rattle.std.specs.Prelude.{ℕ, List, map}
use Rattle.std.specs.declared.vec.Vec.{Vec}
use Rattle.std.specs.declared.alloc.Global.{Global}
use Rattle.ws2s_read.specs.declared.names.Meaning.{Meaning}

abbrev pub entry_of : Vec ℕ Global × Meaning → List ℕ × Meaning
entry_of e = (e.0.items, e.1)

abbrev pub names_of : List (Vec ℕ Global × Meaning) → List (List ℕ × Meaning)
names_of entries = map entry_of entries
