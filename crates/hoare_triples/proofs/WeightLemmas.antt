-- On what falls where code is made.
use Rattle.std.proofs.Common.{◌≡◌, ℕ, ◌+◌, ◌≤◌, List, [], ◌∷◌, map, refl, sym, ap, ◌∙◌, subst, arith}
use Rattle.std.specs.List.{sum_by}
use Rattle.std.proofs.lemmas.List.Sums.{sum_by-cons}
use Rattle.store_logic.specs.declared.cond.Cond.{Cond}
use Rattle.pale_typed.specs.declared.typed.Stmt.{Stmt, roll-Stmt, out-Stmt, roll-out-Stmt}
use Rattle.pale_typed.specs.declared.typed.Stmt.TheVariants as stmt
use Rattle.pale_typed.specs.declared.typed.Stmt.TheOpen.{Stmt-F}
use Rattle.pale_typed.specs.declared.typed.Stmt.TheFolds.{map-Stmt, fold-roll-Stmt}
use Rattle.hoare_triples.specs.Weights.{weight_rule, weight_of}

weight-form : (s : Stmt) (x : Stmt-F Stmt) → s ≡ roll-Stmt x → weight_of s ≡ weight_rule (map-Stmt Stmt ℕ weight_of x)
weight-form s x is = ap weight_of is ∙ fold-roll-Stmt ℕ weight_rule x

rule-positive : (x : Stmt-F ℕ) → 1 ≤ weight_rule x
rule-positive Stmt-F.Skip = omega arith
rule-positive (Stmt-F.Do line a) = omega arith
rule-positive (Stmt-F.If line c first other) = omega arith
rule-positive (Stmt-F.While place c invariant body) = omega arith
rule-positive (Stmt-F.Split place a) = omega arith
rule-positive (Stmt-F.Call place call) = omega arith

pub weight-positive : (s : Stmt) → 1 ≤ weight_of s
weight-positive s = subst (λ (n : ℕ). 1 ≤ n) (sym (weight-form s (out-Stmt s) (sym (roll-out-Stmt s)))) (rule-positive (map-Stmt Stmt ℕ weight_of (out-Stmt s)))

sum-map : (xs : List Stmt) → sum_by (λ n. n) (map weight_of xs) ≡ sum_by weight_of xs
sum-map [] = refl
sum-map (s ∷ xs) = sum_by-cons (λ n. n) (weight_of s) (map weight_of xs) ∙ ap (λ n. weight_of s + n) (sum-map xs) ∙ sym (sum_by-cons weight_of s xs)

pub weight-If : (line : ℕ) (c : Cond) (first other : List Stmt) → weight_of (stmt.If line c first other) ≡ 3 + (sum_by weight_of first + sum_by weight_of other)
weight-If line c first other =
    weight-form _ (Stmt-F.If line c first other) (sym (stmt.rolls-If line c first other))
    ∙ ap (λ n. 3 + (n + sum_by (λ n. n) (map weight_of other))) (sum-map first) ∙ ap (λ n. 3 + (sum_by weight_of first + n)) (sum-map other)

pub weight-cons : (s : Stmt) (more : List Stmt) → sum_by weight_of (s ∷ more) ≡ weight_of s + sum_by weight_of more
weight-cons s more = sum_by-cons weight_of s more
