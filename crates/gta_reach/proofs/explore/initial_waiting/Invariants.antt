use Rattle.std.specs.Prelude.{All}
use Rattle.gta_reach.specs.Exploring.{IsWaiting}
use Rattle.gta_reach.proofs.explore.initial_waiting.Given as goal

abbrev pub invariant-loop-s : goal.invariant-loop-s
invariant-loop-s l = All (IsWaiting l.form) l.waiting
