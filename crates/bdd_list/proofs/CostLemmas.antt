-- What is left to do falls with each turn.
use Rattle.std.proofs.Common.{◌≡◌, ℕ, ◌+◌, ◌*◌, ◌^◌, ◌<◌, ◌≤◌, arith}
use Rattle.std.proofs.lemmas.Nat.{pow-add}
use Rattle.std.proofs.Math.Pow.{pow_mono}

-- a lower rank costs at most a quarter
lower : (a w : ℕ) → a < w → 2 ^ (2 * a + 2) ≤ 2 ^ (2 * w)
lower a w falls = pow_mono {i = 2 * a + 2} {j = 2 * w} (omega arith)

pub cost-split : (a b w : ℕ) → a < w → b < w → 2 ^ (2 * a + 2) + (2 ^ (2 * b + 2) + 2) < 2 ^ (2 * w + 2)
cost-split a b w a_falls b_falls =
    let four : 2 ^ (2 * w + 2) ≡ 2 ^ (2 * w) * 4 = pow-add 2 (2 * w) 2 in
    let least : 2 ^ 2 ≤ 2 ^ (2 * w) = pow_mono {i = 2} {j = 2 * w} (omega arith) in
    let first = lower a w a_falls in
    let second = lower b w b_falls in
    omega arith

pub cost-some : (w : ℕ) → 0 < 2 ^ (2 * w + 2)
cost-some w =
    let least : 2 ^ 0 ≤ 2 ^ (2 * w + 2) = pow_mono {i = 0} {j = 2 * w + 2} (omega arith) in
    omega arith
