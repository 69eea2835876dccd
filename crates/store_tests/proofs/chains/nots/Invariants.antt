use Rattle.store_logic.specs.Postfix.{form_count}
use Rattle.store_tests.proofs.chains.nots.Given as goal

abbrev pub decreases-loop-rest : goal.decreases-loop-rest
decreases-loop-rest l = form_count l.rest
