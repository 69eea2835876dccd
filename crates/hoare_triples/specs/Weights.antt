-- What falls where code is made: statements are gone through, and what follows them.
use Rattle.std.specs.Prelude.{ℕ, ◌+◌, sum_by}
use Rattle.pale_typed.specs.declared.typed.Stmt.{Stmt}
use Rattle.pale_typed.specs.declared.typed.Stmt.TheOpen.{Stmt-F}
use Rattle.pale_typed.specs.declared.typed.Stmt.TheFolds.{fold-Stmt}
use Rattle.hoare_triples.specs.declared.rest.Rest.{Rest, Exit, Again, Then'}
use Rattle.hoare_triples.specs.declared.codes.Ending.{Ending}
use Rattle.hoare_triples.specs.declared.codes.Ending.TheVariants as ending

abbrev pub weight_rule : Stmt-F ℕ → ℕ
weight_rule Stmt-F.Skip = 1
weight_rule (Stmt-F.Do line a) = 1
weight_rule (Stmt-F.If line c first other) = 3 + (sum_by (λ n. n) first + sum_by (λ n. n) other)
weight_rule (Stmt-F.While place c invariant body) = 1
weight_rule (Stmt-F.Split place a) = 1
weight_rule (Stmt-F.Call place call) = 1

-- a statement by its blocks; code goes into those of an `if` alone
abbrev pub weight_of : Stmt → ℕ
weight_of = fold-Stmt ℕ weight_rule

-- what follows, with one more for each link
abbrev pub weight_behind : Rest → ℕ
weight_behind Exit = 0
weight_behind (Again place invariant) = 0
weight_behind (Then' block p after) = 1 + (sum_by weight_of block.now + weight_behind after)

abbrev pub ending_weight : Ending → ℕ
ending_weight ending.Exit = 0
ending_weight (ending.Again place invariant) = 0
ending_weight (ending.At s rest) = weight_of s.now + weight_behind rest
