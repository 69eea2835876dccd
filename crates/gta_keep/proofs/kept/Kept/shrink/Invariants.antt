use Rattle.std.proofs.Common.{[], length, Contains}
use Rattle.gta_theory.specs.Guides.{Spaces}
use Rattle.gta_core.specs.Auto.{AutoView}
use Rattle.gta_keep.specs.Holding.{HoldsBeside, Passes}
use Rattle.gta_keep.proofs.kept.Kept.shrink.Given as goal

abbrev pub invariant-loop-auto : goal.invariant-loop-auto
invariant-loop-auto l = record {
  passes : (g : Spaces) → Passes g l.fn.shelf l.shelf [] [] l.fn.self l.self;
  held : (g : Spaces) × HoldsBeside g l.shelf [] l.self;
  stays : (auto : AutoView) → Contains l.fn.self (l.id, auto) → Contains l.self (l.id, auto);
}

abbrev pub decreases-loop-auto : goal.decreases-loop-auto
decreases-loop-auto l = length l.self
