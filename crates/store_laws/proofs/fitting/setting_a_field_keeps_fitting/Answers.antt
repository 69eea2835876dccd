use Rattle.store_laws.proofs.FitsLemmas.{Fits-set_field}
use Rattle.store_laws.proofs.fitting.setting_a_field_keeps_fitting.Goals as goal

pub returns : goal.returns
returns c = Fits-set_field
