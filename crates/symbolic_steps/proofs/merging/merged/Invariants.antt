use Rattle.std.proofs.Common.{ℕ}
use Rattle.symbolic_steps.proofs.MergeLemmas.{IsMerging}
use Rattle.symbolic_steps.proofs.merging.merged.Given as goal

-- the values so far are merged, and the rest is merged behind them
abbrev pub invariant-loop-place : goal.invariant-loop-place
invariant-loop-place l = (next wanted : ℕ) → IsMerging l.l.types l.l.vars l.way.0 l.first l.other l.place next wanted l.initial.w l.w l.values
