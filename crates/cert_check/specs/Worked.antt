-- The lines of a worked section: "the set is one position, and it isn't one position", under the guide with one space.
use Rattle.std.specs.Prelude.{List, [], ◌∷◌}
use Rattle.cert_text.specs.declared.line.Way.TheVariants as way
use Rattle.cert_text.specs.declared.line.Target.TheVariants as target
use Rattle.cert_text.specs.declared.line.Line.{Line}
use Rattle.cert_text.specs.declared.line.Line.TheVariants as line

abbrev pub contradiction_lines : List Line
contradiction_lines =
    line.Section (record { way = way.Whole; parts = 3 })
    ∷ line.And 2
    ∷ line.Space (record { space = 0; states = 1; initial = 0 })
    ∷ line.Left (record { space = 0; classes = 0 ∷ [] })
    ∷ line.Right (record { space = 0; classes = 0 ∷ [] })
    ∷ line.Root (record { space = 0; left = 0; right = 0; target = target.State 0 })
    ∷ line.Accept []
    ∷ line.Pair (record { space = 0; first = 0; second = 0; state = 0 })
    ∷ line.Pair (record { space = 0; first = 1; second = 1; state = 0 })
    ∷ line.Pair (record { space = 0; first = 2; second = 2; state = 0 })
    ∷ line.End
    ∷ []
