use Rattle.gta_core.proofs.AutoLemmas.{KeepsTable-added, KeepsTable-grown, KeepsTable-moved}
use Rattle.gta_core.proofs.laws.tables_outlive_changes.Goals as goal

pub returns-clause-added : goal.returns-clause-added
returns-clause-added c = KeepsTable-added

pub returns-clause-collected : goal.returns-clause-collected
returns-clause-collected c = λ old new number moves. KeepsTable-moved old new moves number

pub returns-clause-grown : goal.returns-clause-grown
returns-clause-grown c = KeepsTable-grown
