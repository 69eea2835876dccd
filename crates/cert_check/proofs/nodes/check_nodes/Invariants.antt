use Rattle.std.proofs.Common.{◌≡◌}
use Rattle.cert_nodes.specs.Spots.{AreDrawn}
use Rattle.cert_steps.specs.Places.{greatests_of}
use Rattle.cert_check.specs.Boards.{AreInside}
use Rattle.cert_check.specs.Standing.{Stands}
use Rattle.cert_check.proofs.nodes.check_nodes.Given as goal

abbrev pub invariant-loop-number : goal.invariant-loop-number
invariant-loop-number l =
    AreDrawn l.drawing.nodes × (l.drawing.greatest ≡ greatests_of l.drawing.nodes.told) × AreInside l.board.bases l.board.parts
    × Stands l.g l.nodes l.drawing.nodes l.board l.number l.fn.lines l.left
