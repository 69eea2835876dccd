use Rattle.std.proofs.Common.{List, ◌++◌, length}
use Rattle.gta_theory.specs.Guides.{Spaces}
use Rattle.gta_core.specs.Auto.{AutoView}
use Rattle.gta_keep.specs.Holding.{Holds}
use Rattle.ws2s_decide.specs.Going.{Releases}
use Rattle.ws2s_decide.proofs.waiting.Waiting.release_all.Given as goal

abbrev pub invariant-loop-auto : goal.invariant-loop-auto
invariant-loop-auto l = (g : Spaces) (others : List AutoView) → Holds g l.fn.shelf (l.fn.self ++ others) →
    Releases g l.fn.shelf l.shelf (l.self ++ others)

abbrev pub decreases-loop-auto : goal.decreases-loop-auto
decreases-loop-auto l = length l.self
