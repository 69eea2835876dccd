use Rattle.std.proofs.Common.{◌≡◌, ◌+◌, length, take, reverse}
use Rattle.ws2s_reduce.specs.Reducing.{is_stepped_at}
use Rattle.ws2s_forms.specs.Targets.{target}
use Rattle.ws2s_reduce.proofs.term.is_at.Given as goal

abbrev pub invariant-loop-step : goal.invariant-loop-step
invariant-loop-step l = record {
  count : l.left + l.step-index ≡ length l.steps;
  built : l.formula ≡ is_stepped_at (l.next + l.left) l.tracks l.fn.term.base (reverse (take l.step-index l.steps)) (target l.next l.left l.own);
}
