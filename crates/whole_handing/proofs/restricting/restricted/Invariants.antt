use Rattle.std.proofs.Common.{◌≡◌}
use Rattle.whole_handing.proofs.RestrictingLemmas.{half_restricted}
use Rattle.whole_handing.proofs.restricting.restricted.Given as goal

-- the variables below the index are restricted
abbrev pub invariant-loop-index : goal.invariant-loop-index
invariant-loop-index l = l.after ≡ half_restricted l.fn.store l.index
