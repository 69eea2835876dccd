-- Room for levels.
use Rattle.std.proofs.Common.{ℕ, suc}

-- one number of levels, and one that is as much or more
pub data Wider : ℕ → ℕ → Type 0 where
  alike : (n : ℕ) → Wider n n
  wider : {n m : ℕ} → Wider (suc n) m → Wider n m
