use Rattle.std.proofs.Common.{◌≡◌, map, nat_eq}
use Rattle.std.specs.List.{range_with_len}
use Rattle.gta_pinned.proofs.parts.only.Given as goal

abbrev pub invariant-loop-other : goal.invariant-loop-other
invariant-loop-other l = l.accepting ≡ map (λ q. nat_eq q l.state) (range_with_len 0 l.other)
