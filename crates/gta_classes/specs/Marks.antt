-- Marks and numbers of which none is set.
use Rattle.std.specs.Prelude.{◌≡◌, ℕ, Bool, false, List, slice_index}
use Rattle.gta_classes.specs.Chosen.{is_marked}

-- no mark is set
abbrev pub IsClear : List Bool → Type 0
IsClear marks = (i : ℕ) → is_marked marks i ≡ false

-- each number is 0
abbrev pub AreZero : List ℕ → Type 0
AreZero ids = (q : ℕ) → slice_index ids q ≡ 0
