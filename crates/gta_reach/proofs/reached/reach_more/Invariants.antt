use Rattle.std.proofs.Common.{◌≡◌, ◌+◌, ◌<◌, ◌≤◌, ℕ, false}
use Rattle.gta_reach.specs.Reached.{AreGenerated, IsClosedIn}
use Rattle.gta_reach.specs.Unset.{one_if, unset_in}
use Rattle.gta_reach.proofs.reached.reach_more.Given as goal

abbrev pub invariant-loop-s : goal.invariant-loop-s
invariant-loop-s l = record {
  generated : AreGenerated l.form l.reached.items;
  closed : l.is_more ≡ false → (s : ℕ) → s < l.s → IsClosedIn l.form l.reached.items s;
  fewer : unset_in l.reached.items + one_if l.is_more ≤ unset_in l.fn.reached.items;
}
