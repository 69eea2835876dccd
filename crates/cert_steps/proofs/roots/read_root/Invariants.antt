use Rattle.std.proofs.Common.{length, ◌≡◌}
use Rattle.cert_nodes.specs.Spots.{AreDrawn}
use Rattle.cert_steps.specs.Places.{greatests_of}
use Rattle.cert_steps.proofs.RootsLemmas.{HasDrawn}
use Rattle.cert_steps.proofs.roots.read_root.Given as goal

abbrev pub invariant-loop-node : goal.invariant-loop-node
invariant-loop-node l =
    AreDrawn l.drawing.nodes × (l.drawing.greatest ≡ greatests_of l.drawing.nodes.told) × (l.drawing.nodes.atoms ≡ l.fn.drawing.nodes.atoms)
    × HasDrawn l.fn.drawing.nodes.told l.drawing.nodes.told l.fn.lines l.left

abbrev pub decreases-loop-node : goal.decreases-loop-node
decreases-loop-node l = length l.left
