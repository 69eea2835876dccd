use Rattle.std.proofs.Common.{◌<◌, ℕ}
use Rattle.gta_classes.proofs.SplitLemmas.{Splits}
use Rattle.gta_classes.proofs.splitting.split.Given as goal

abbrev pub invariant-loop-state : goal.invariant-loop-state
invariant-loop-state l = Splits l.reached l.ids l.fn.classes l.fn.representatives l.made l.representatives l.classes (λ (q : ℕ). q < l.state)
