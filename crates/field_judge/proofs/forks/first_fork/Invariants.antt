use Rattle.field_judge.proofs.ForksLemmas.{NoneBefore}
use Rattle.field_judge.proofs.forks.first_fork.Given as goal

-- no cell so far has two destinations
abbrev pub invariant-loop-place : goal.invariant-loop-place
invariant-loop-place l = NoneBefore l.types l.store l.f l.place
