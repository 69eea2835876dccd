use Rattle.std.proofs.Common.{◌≡◌, map}
use Rattle.std.specs.List.{range_with_len}
use Rattle.gta_atom.specs.Children.{test_of}
use Rattle.gta_atom.specs.States.{is_held, known_of}
use Rattle.gta_atom.specs.Plans.{kept_in}
use Rattle.gta_atom.proofs.making.held.Given as goal

abbrev pub invariant-loop-state : goal.invariant-loop-state
invariant-loop-state l =
    l.accepting ≡ map (λ i. is_held l.plan.form (known_of (kept_in l.plan (test_of l.test) 0) i)) (range_with_len 0 l.state)
