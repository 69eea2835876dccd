use Rattle.gta_keep.proofs.CopyLemmas.{IsMinimalFor-kept, IsMinimalFor-copy}
use Rattle.gta_keep.proofs.laws.copies_are_minimal.Goals as goal

pub returns-clause-kept : goal.returns-clause-kept
returns-clause-kept c = IsMinimalFor-kept

pub returns-clause-copies : goal.returns-clause-copies
returns-clause-copies c = IsMinimalFor-copy
