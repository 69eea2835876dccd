use Rattle.store_logic.proofs.NextLemmas.{Sat-next}
use Rattle.store_logic.proofs.laws.satisfaction_ignores_the_next_number.Goals as goal

pub returns : goal.returns
returns c = Sat-next
