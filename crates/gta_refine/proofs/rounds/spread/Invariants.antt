use Rattle.std.proofs.Common.{◌≡◌, take, map}
use Rattle.std.specs.Prelude.{slice_index}
use Rattle.gta_refine.proofs.rounds.spread.Given as goal

abbrev pub invariant-loop-kind : goal.invariant-loop-kind
invariant-loop-kind l = l.spread.items ≡ map (slice_index l.ids) (take l.kind-index l.kinds)
