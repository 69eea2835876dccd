use Rattle.std.proofs.Common.{◌≡◌, ◌≤◌, ◌++◌, drop, length}
use Rattle.ws2s_reduce.specs.Building.{steps_of, chain_steps}
use Rattle.ws2s_reduce.proofs.tasks.push_chain.Given as goal

abbrev pub invariant-loop-left : goal.invariant-loop-left
invariant-loop-left l = record {
  within : l.left ≤ length l.others;
  steps : steps_of l.tasks.items ≡ chain_steps l.connective l.place (drop l.left l.others) ++ steps_of l.initial.tasks.items;
}

abbrev pub decreases-loop-left : goal.decreases-loop-left
decreases-loop-left l = l.left
