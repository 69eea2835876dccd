use Rattle.store_laws.proofs.FreshLemmas.{IsFresh-set_var}
use Rattle.store_laws.proofs.freshness.setting_a_variable_keeps_fresh.Goals as goal

pub returns : goal.returns
returns c = IsFresh-set_var
