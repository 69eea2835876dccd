-- What the loop that drops a code lowers.
use Rattle.std.specs.Prelude.{ℕ, ◌+◌, ◌*◌}
use Rattle.store_exec.specs.declared.code.Code.{Code, out-Code}
use Rattle.store_exec.specs.declared.code.Tail.{Tail}
use Rattle.store_exec.specs.declared.code.Tail.TheViews.{out-Tail}
use Rattle.store_exec.specs.declared.code.Tail.TheOpen.{Tail-F}
use Rattle.store_exec.specs.declared.code.Tail.TheFolds.{fold-Code}

-- a code's weight by that of its parts: a left code counts twice, so that turning a branch to the right lowers it
abbrev pub weight_of_tail : Tail-F ℕ ℕ → ℕ
weight_of_tail (Tail-F.Cut place) = 1
weight_of_tail (Tail-F.Branch line c taken other) = 2 * taken + other + 1

abbrev pub turning_weight : Code → ℕ
turning_weight = fold-Code ℕ ℕ weight_of_tail (λ x. x.tail)

-- 1 for a code that goes to a cut, and 3 for one with a branch
abbrev pub rank_of_tail : Tail-F Tail Code → ℕ
rank_of_tail (Tail-F.Cut place) = 1
rank_of_tail (Tail-F.Branch line c taken other) = 3

abbrev pub code_rank : Code → ℕ
code_rank c = rank_of_tail (out-Tail (out-Code c).tail)
