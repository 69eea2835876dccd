use Rattle.std.proofs.Common.{◌≡◌, map}
use Rattle.cert_nodes.specs.Spots.{AreDrawn}
use Rattle.cert_steps.specs.Places.{greatests_of}
use Rattle.cert_steps.specs.Reading.{ReadsSpaces}
use Rattle.cert_steps.proofs.rows.read_roots.Given as goal

abbrev pub invariant-loop-space : goal.invariant-loop-space
invariant-loop-space l =
    AreDrawn l.drawing.nodes × (l.drawing.greatest ≡ greatests_of l.drawing.nodes.told) × (l.drawing.nodes.atoms ≡ l.fn.drawing.nodes.atoms)
    × ReadsSpaces l.fn.drawing.nodes.told l.drawing.nodes.told l.spaces (map (λ x. x.now) l.lefts) (map (λ x. x.now) l.rights) l.space
    l.fn.lines l.tables l.left
