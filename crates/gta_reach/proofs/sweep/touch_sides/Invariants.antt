use Rattle.std.proofs.Common.{◌+◌, ◌≤◌, ℕ, List, Bool}
use Rattle.gta_reach.specs.Reached.{Sweeps, Grown, AreSidesTouched}
use Rattle.gta_reach.specs.Unset.{one_if, unset}
use Rattle.gta_reach.proofs.sweep.touch_sides.Given as goal

abbrev pub invariant-loop-index : goal.invariant-loop-index
invariant-loop-index l = record {
  sweeps : (lefts rights : List ℕ) (before : List Bool) →
      Sweeps l.space lefts rights before l.fn.nodes.items l.fn.states l.fn.is_more →
      Sweeps l.space lefts rights before l.nodes.items l.states l.is_more;
  grown : Grown l.fn.nodes.items l.fn.states l.nodes.items l.states;
  sides : AreSidesTouched l.space l.nodes.items l.states l.index;
  fewer : unset l.states + one_if l.is_more ≤ unset l.fn.states + one_if l.fn.is_more;
}
