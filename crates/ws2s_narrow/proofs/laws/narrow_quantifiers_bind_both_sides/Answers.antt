use Rattle.ws2s_narrow.proofs.NarrowedPartsLemmas.{narrowed-part}
use Rattle.ws2s_narrow.proofs.laws.narrow_quantifiers_bind_both_sides.Goals as goal

pub returns : goal.returns
returns c = narrowed-part
