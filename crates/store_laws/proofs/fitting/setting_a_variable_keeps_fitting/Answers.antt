use Rattle.store_laws.proofs.FitsLemmas.{Fits-set_var}
use Rattle.store_laws.proofs.fitting.setting_a_variable_keeps_fitting.Goals as goal

pub returns : goal.returns
returns c = Fits-set_var
