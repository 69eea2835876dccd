-- Names of one kind, each once.
use Rattle.std.specs.Prelude.{ℕ, List, [], ◌∷◌, ◌++◌, fold, map, is_none, None, nat_lt, length, if◌then◌else◌, Bool}
use Rattle.std.specs.declared.vec.Vec.{Vec}
use Rattle.std.specs.declared.alloc.Global.{Global}
use Rattle.pale_text.specs.declared.refusal.RefusalKind.{RefusalKind}
use Rattle.pale_text.specs.declared.refusal.RefusalKind.TheVariants as kind
use Rattle.pale_syntax.specs.declared.tree.names.Name.{Name}
use Rattle.store_core.specs.Tables.{place_of}
use Rattle.pale_tables.specs.Faults.{Fault, need, ◌>>◌}

-- the names as they are kept, read as a list
abbrev pub names_of : List (Vec ℕ Global × Unit {0}) → List (List ℕ)
names_of entries = map (λ e. e.0.items) entries

-- a name isn't among those before it
abbrev pub is_new : List (List ℕ) → List ℕ → Bool
is_new before name = is_none (place_of name before)

-- the name goes last, where it is new
abbrev pub with_name : List (List ℕ) → List ℕ → List (List ℕ)
with_name names name = if is_new names name then names ++ name ∷ [] else names

-- each name once, in the order in which they first come
abbrev pub each_once : List (List ℕ) → List (List ℕ)
each_once names = fold with_name [] names

-- the name is new among those before it, of which there are fewer than so many, else the kind
unfoldable pub new_fault : ℕ → RefusalKind → List (List ℕ) → Name → Fault
new_fault most many before name =
    need (is_new before name.bytes) kind.Duplicate name.place >> need (nat_lt (length before) most) many name.place

-- each name is new among those before it, and among these ones
abbrev pub repeated_fault : List (List ℕ) → List Name → Fault
repeated_fault before [] = None
repeated_fault before (name ∷ names) =
    need (is_new before name.bytes) kind.Duplicate name.place >> repeated_fault (before ++ name.bytes ∷ []) names
