use Rattle.store_laws.proofs.ChangeLemmas.{IsFieldSet-set_field}
use Rattle.store_laws.proofs.changes.setting_a_field.Goals as goal

pub returns : goal.returns
returns c = IsFieldSet-set_field
