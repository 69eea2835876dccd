-- The part of a text behind its line `---`.
use Rattle.std.proofs.Common.{◌≡◌, ◌<◌, ◌==◌, ◌-◌, ℕ, suc, true, List, [], ◌∷◌, length, refl, arith}
use Rattle.std.proofs.lemmas.Bool.Decides.{nat_tests}
use Rattle.store_text.specs.Lines.{lines_of}

-- an empty one has no lines
pub no_lines : (part : List ℕ) → (length part == 0) ≡ true → lines_of part ≡ []
no_lines [] none = refl
no_lines (b ∷ bs) none = absurd (grind (arith, nat_tests))

-- a triple is counted from 1, and its place from 0
pub one_more : (n : ℕ) → 0 < n → suc (n - 1) ≡ n
one_more n some = omega arith
