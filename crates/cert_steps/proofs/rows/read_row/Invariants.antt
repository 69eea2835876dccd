use Rattle.std.proofs.Common.{◌≡◌}
use Rattle.cert_nodes.specs.Spots.{AreDrawn}
use Rattle.cert_steps.specs.Places.{greatests_of}
use Rattle.cert_steps.specs.Reading.{ReadsRoots}
use Rattle.cert_steps.proofs.rows.read_row.Given as goal

abbrev pub invariant-loop-right : goal.invariant-loop-right
invariant-loop-right l =
    AreDrawn l.drawing.nodes × (l.drawing.greatest ≡ greatests_of l.drawing.nodes.told) × (l.drawing.nodes.atoms ≡ l.fn.drawing.nodes.atoms)
    × ReadsRoots l.fn.drawing.nodes.told l.drawing.nodes.told l.place.states l.place.space l.place.left l.right l.fn.lines l.targets l.left
