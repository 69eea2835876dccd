use Rattle.std.proofs.Common.{◌≡◌}
use Rattle.cert_nodes.specs.Spots.{AreDrawn}
use Rattle.cert_steps.specs.Places.{greatests_of}
use Rattle.cert_steps.specs.Reading.{ReadsRows}
use Rattle.cert_steps.proofs.rows.read_rows.Given as goal

abbrev pub invariant-loop-class : goal.invariant-loop-class
invariant-loop-class l =
    AreDrawn l.drawing.nodes × (l.drawing.greatest ≡ greatests_of l.drawing.nodes.told) × (l.drawing.nodes.atoms ≡ l.fn.drawing.nodes.atoms)
    × ReadsRows l.fn.drawing.nodes.told l.drawing.nodes.told l.place.states l.place.space l.class l.place.right l.fn.lines l.rows l.left
