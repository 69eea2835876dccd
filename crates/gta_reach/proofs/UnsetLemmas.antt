-- A mark that is set leaves fewer unset.
use Rattle.std.proofs.Common.{◌≡◌, ℕ, zero, suc, ◌+◌, ◌<◌, ◌≤◌, Bool, true, false, List, [], ◌∷◌, length, Some, arith}
use Rattle.std.specs.Prelude.{slice_get, slice_set, slice_index_or}
use Rattle.gta_reach.specs.Unset.{unset, unset_in}

pub unset-fewer : (marks : List Bool) (k : ℕ) → unset (slice_set marks k true) ≤ unset marks
unset-fewer [] k = omega arith
unset-fewer (true ∷ marks) zero = omega arith
unset-fewer (false ∷ marks) zero = omega arith
unset-fewer (mark ∷ marks) (suc k) = let rest = unset-fewer marks k in omega arith

pub unset-less : (marks : List Bool) (k : ℕ) → slice_get marks k ≡ Some false → unset (slice_set marks k true) + 1 ≤ unset marks
unset-less [] k there = absurd cc
unset-less (true ∷ marks) zero there = absurd (let e : true ≡ false = cc in cc)
unset-less (false ∷ marks) zero there = omega arith
unset-less (mark ∷ marks) (suc k) there = let rest = unset-less marks k there in omega arith

-- the marks of one space change
pub unset_in-set : (all : List (List Bool)) (s : ℕ) (marks : List Bool) → s < length all →
    unset_in (slice_set all s marks) + unset (slice_index_or all s []) ≡ unset_in all + unset marks
unset_in-set [] s marks inside = absurd (omega arith)
unset_in-set (first ∷ rest) zero marks inside = omega arith
unset_in-set (first ∷ rest) (suc s) marks inside = let others = unset_in-set rest s marks (omega arith) in omega arith
