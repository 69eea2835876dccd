use Rattle.gta_keep.proofs.HoldingLemmas.{Holds-registers, Holds-release, Holds-still, Holds-collected}
use Rattle.gta_keep.proofs.laws.held_automata_outlive_changes.Goals as goal

pub returns-clause-registered : goal.returns-clause-registered
returns-clause-registered c = λ g old new a xs holds is_shelf keeps registers auto. Holds-registers g old new a xs holds is_shelf keeps registers auto

pub returns-clause-released : goal.returns-clause-released
returns-clause-released c = λ g old new a xs holds is_shelf drops. Holds-release g old new a xs holds is_shelf drops

pub returns-clause-made : goal.returns-clause-made
returns-clause-made c = Holds-still

pub returns-clause-collected : goal.returns-clause-collected
returns-clause-collected c = Holds-collected
