use Rattle.std.proofs.Common.{◌≡◌, ℕ, ◌&&◌, map, take}
use Rattle.gta_core.specs.Auto.{is_accepting}
use Rattle.gta_product.proofs.pairing.accepting.Given as goal

abbrev pub invariant-loop-pair : goal.invariant-loop-pair
invariant-loop-pair l = l.accepting ≡ map (λ (pair : ℕ × ℕ). is_accepting l.a pair.0 && is_accepting l.b pair.1) (take l.pair-index l.pairs)
