use Rattle.std.proofs.Common.{[], length}
use Rattle.gta_theory.specs.Guides.{Spaces}
use Rattle.gta_keep.specs.Holding.{HoldsBeside, Passes}
use Rattle.gta_keep.proofs.kept.Kept.release_all.Given as goal

abbrev pub invariant-loop-auto : goal.invariant-loop-auto
invariant-loop-auto l = record {
  passes : (g : Spaces) → Passes g l.initial.shelf l.shelf [] [] l.initial.self-inside.automata.entries l.self-inside.automata.entries;
  held : (g : Spaces) × HoldsBeside g l.shelf [] l.self-inside.automata.entries;
}

abbrev pub decreases-loop-auto : goal.decreases-loop-auto
decreases-loop-auto l = length l.self-inside.automata.entries
