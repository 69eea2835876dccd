use Rattle.std.proofs.Common.{◌≡◌, ◌++◌}
use Rattle.ws2s_reduce.specs.Building.{tracks_from}
use Rattle.ws2s_reduce.proofs.tasks.push_tracks.Given as goal

abbrev pub invariant-loop-name : goal.invariant-loop-name
invariant-loop-name l = l.tracks.items ≡ l.initial.tracks.items ++ tracks_from l.first l.name
