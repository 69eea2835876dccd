use Rattle.std.proofs.Common.{◌+◌, sum_by}
use Rattle.store_logic.specs.Postfix.{form_count}
use Rattle.store_claims.proofs.worth.set_quantifiers.Given as goal

abbrev pub decreases-loop-part : goal.decreases-loop-part
decreases-loop-part l = form_count l.part + sum_by (λ w. form_count w.now) l.waiting
