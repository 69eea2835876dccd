use Rattle.std.proofs.Common.{◌≡◌, ℕ, length, Some, slice_get}
use Rattle.bdd_nodes.specs.Shelf.{Contents}
use Rattle.bdd_walk.specs.declared.set_joiner.SetJoiner.{SetJoiner}
use Rattle.bdd_walk.specs.Answers.{Answers}
use Rattle.bdd_walk.specs.Fits.{FitsSets}
use Rattle.gta_project.proofs.projecting.joiners.Given as goal

abbrev pub invariant-loop-space : goal.invariant-loop-space
invariant-loop-space l = record {
  many : length l.joiners.items ≡ l._space;
  each : (s : ℕ) (joiner : SetJoiner) → slice_get l.joiners.items s ≡ Some joiner → (dropped : ℕ) (shelf : Contents) (answers : Answers) →
      FitsSets joiner dropped shelf answers;
}
