-- What a push does to a text that is written, which is `None` once memory ran out.
use Rattle.std.specs.Prelude.{◌≡◌, ℕ, List, ◌++◌, IfSome, option_map}
use Rattle.std.specs.Prelude.{Option, Some}

-- where there is still a text, it is the one before with these bytes behind it
abbrev pub Grows : Option (List ℕ) → List ℕ → Option (List ℕ) → Type 0
Grows before bytes now = IfSome now (λ text. option_map (λ begun. begun ++ bytes) before ≡ Some text)
