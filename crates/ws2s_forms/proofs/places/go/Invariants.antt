use Rattle.std.proofs.Common.{◌≡◌, ◌+◌, ◌-◌, ◌≤◌}
use Rattle.ws2s_forms.specs.Forms.{go}
use Rattle.ws2s_forms.specs.Targets.{target}
use Rattle.ws2s_forms.proofs.places.go.Given as goal

abbrev pub invariant-loop-left : goal.invariant-loop-left
invariant-loop-left l = record {
  within : l.left ≤ l.fn.steps;
  built : l.formula ≡ go (l.next + l.left) (l.fn.steps - l.left) (target l.next l.left l.from.0) l.fn.to.0;
}

abbrev pub decreases-loop-left : goal.decreases-loop-left
decreases-loop-left l = l.left
