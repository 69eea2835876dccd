-- What an object tells of its bytes: `Some` of them, or `None` where it doesn't tell.
-- Each word keeps this: what tells goes on telling, and what doesn't tell never begins to.
use Rattle.std.specs.Prelude.{◌≡◌, ℕ, List, [], ◌++◌, drop, Option, IfSome}
use Rattle.std.specs.Option.{option_map}

-- these bytes in front of those that are told
abbrev pub prepended : List ℕ → Option (List ℕ) → Option (List ℕ)
prepended front told = option_map (λ rest. front ++ rest) told

-- the bytes that are told, and these behind them
abbrev pub appended : Option (List ℕ) → List ℕ → Option (List ℕ)
appended told more = option_map (λ front. front ++ more) told

-- the bytes that are told, without the first so many
abbrev pub without_first : ℕ → Option (List ℕ) → Option (List ℕ)
without_first count told = option_map (λ bytes. drop count bytes) told

-- no bytes, where it tells
abbrev pub emptied : Option (List ℕ) → Option (List ℕ)
emptied told = option_map (λ _. []) told

-- where it tells, it tells of no bytes
abbrev pub IsEmpty : Option (List ℕ) → Type 0
IsEmpty told = IfSome told (λ bytes. bytes ≡ [])
