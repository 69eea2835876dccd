use Rattle.std.proofs.Common.{◌<◌, ◌-◌, ◌++◌, length, reverse}
use Rattle.gta_theory.specs.Assignments.{Position}
use Rattle.ws2s_theory.specs.Trees.{StandsAt}
use Rattle.ws2s_example.proofs.hanging.position_of.Given as goal

abbrev pub invariant-loop-at : goal.invariant-loop-at
invariant-loop-at l = (l.at < length l.nodes)
    × ((q : Position) → StandsAt l.nodes l.at q → StandsAt l.nodes l.node (q ++ reverse l.letters.items))

abbrev pub decreases-loop-at : goal.decreases-loop-at
decreases-loop-at l = length l.nodes - l.at
