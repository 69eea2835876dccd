use Rattle.std.proofs.Common.{ℕ, ◌<◌}
use Rattle.gta_merge.specs.Merged.{HasNoEqualLines}
use Rattle.gta_merge.proofs.told.is_told_apart.Given as goal

abbrev pub invariant-loop-space : goal.invariant-loop-space
invariant-loop-space l = (s : ℕ) → s < l.space → HasNoEqualLines l.shelf l.a s
