use Rattle.std.proofs.Common.{◌≡◌, ℕ, take}
use Rattle.cert_steps.proofs.AcceptingLemmas.{says, is_listed}
use Rattle.cert_steps.proofs.accepting.answers_of.Given as goal

abbrev pub invariant-loop-state : goal.invariant-loop-state
invariant-loop-state l = (q : ℕ) → says l.answers q ≡ is_listed (take l.state-index l.listed) q
