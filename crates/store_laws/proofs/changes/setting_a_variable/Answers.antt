use Rattle.store_laws.proofs.ChangeLemmas.{IsVarSet-set_var}
use Rattle.store_laws.proofs.changes.setting_a_variable.Goals as goal

pub returns : goal.returns
returns c = IsVarSet-set_var
