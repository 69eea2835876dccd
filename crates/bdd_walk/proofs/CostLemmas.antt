-- What is left to do falls with each turn.
use Rattle.std.proofs.Common.{◌≡◌, ℕ, ◌+◌, ◌*◌, ◌^◌, ◌<◌, ◌≤◌, List, [], ◌∷◌, ◌++◌, arith}
use Rattle.std.proofs.lemmas.Nat.{pow-add}
use Rattle.std.proofs.Math.Pow.{pow_mono}
use Rattle.bdd_nodes.specs.declared.node_ref.NodeRef.{NodeRef}
use Rattle.bdd_walk.specs.declared.walk.Frame.{Frame}
use Rattle.bdd_walk.specs.declared.walk.Frame.TheVariants.{Low, High, Skip}
use Rattle.bdd_walk.specs.Waits.{visit_cost, frame_cost, stack_cost}

-- a lighter key is at most a quarter
lighter : (a w : ℕ) → a < w → 2 ^ (2 * a + 2) ≤ 2 ^ (2 * w)
lighter a w falls = pow_mono {i = 2 * a + 2} {j = 2 * w} (omega arith)

pub cost-split : (a b w : ℕ) → a < w → b < w → 2 ^ (2 * a + 2) + (2 ^ (2 * b + 2) + 2) < 2 ^ (2 * w + 2)
cost-split a b w a_falls b_falls =
    let four : 2 ^ (2 * w + 2) ≡ 2 ^ (2 * w) * 4 = pow-add 2 (2 * w) 2 in
    let least : 2 ^ 2 ≤ 2 ^ (2 * w) = pow_mono {i = 2} {j = 2 * w} (omega arith) in
    let first = lighter a w a_falls in
    let second = lighter b w b_falls in
    omega arith

pub cost-skip : (a w : ℕ) → a < w → 2 ^ (2 * a + 2) + 1 < 2 ^ (2 * w + 2)
cost-skip a w falls =
    let four : 2 ^ (2 * w + 2) ≡ 2 ^ (2 * w) * 4 = pow-add 2 (2 * w) 2 in
    let least : 2 ^ 2 ≤ 2 ^ (2 * w) = pow_mono {i = 2} {j = 2 * w} (omega arith) in
    let first = lighter a w falls in
    omega arith

pub cost-some : (w : ℕ) → 0 < 2 ^ (2 * w + 2)
cost-some w =
    let least : 2 ^ 0 ≤ 2 ^ (2 * w + 2) = pow_mono {i = 0} {j = 2 * w + 2} (omega arith) in
    omega arith

pub stack_cost-push : {K : Type 0} (weight : K → ℕ) (frame : Frame K) (frames : List (Frame K)) →
    stack_cost weight (frames ++ frame ∷ []) ≡ stack_cost weight frames + frame_cost weight frame
stack_cost-push weight frame [] = omega arith
stack_cost-push weight frame (first ∷ frames) = let rest = stack_cost-push weight frame frames in omega arith

module _ {K : Type 0} (weight : K → ℕ) (stack : List (Frame K)) (key : K) where
  -- a key that has a result costs no more turn
  pub visit-done : 0 + stack_cost weight stack < visit_cost weight key + stack_cost weight stack
  visit-done = let some = cost-some (weight key) in omega arith

  pub visit-skip : (next : K) → weight next < weight key →
      visit_cost weight next + stack_cost weight (stack
      ++ Skip key ∷ []) < visit_cost weight key + stack_cost weight stack
  visit-skip next falls = let pushed = stack_cost-push weight (Skip key) stack in let less = cost-skip (weight next) (weight key) falls in omega arith

  pub visit-low : (track : ℕ) (low high : K) → weight low < weight key → weight high < weight key →
      visit_cost weight low + stack_cost weight (stack
      ++ Low key track high ∷ []) < visit_cost weight key + stack_cost weight stack
  visit-low track low high low_falls high_falls =
      let pushed = stack_cost-push weight (Low key track high) stack in
      let less = cost-split (weight low) (weight high) (weight key) low_falls high_falls in
      omega arith

  pub visit-high : (track : ℕ) (made : NodeRef) (high : K) →
      visit_cost weight high + stack_cost weight (stack
      ++ High key track made ∷ []) < stack_cost weight stack + frame_cost weight (Low key track high)
  visit-high track made high = let pushed = stack_cost-push weight (High key track made) stack in omega arith
