use Rattle.std.proofs.Common.{◌≡◌, ◌≤◌, ℕ, length}
use Rattle.cert_steps.proofs.AcceptingLemmas.{says}
use Rattle.cert_steps.proofs.accepting.extend.Given as goal

abbrev pub invariant-loop-place : goal.invariant-loop-place
invariant-loop-place l = ((q : ℕ) → says l.answers q ≡ says l.fn.answers q) × (l._place ≤ length l.answers)
