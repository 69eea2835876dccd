use Rattle.std.proofs.Common.{ap, sym, ◌∙◌}
use Rattle.pale_text.proofs.KindLemmas.{kind_found, found_among}
use Rattle.pale_text.proofs.kinds.kind_among.Goals as goal

pub returns-in-Some : goal.returns-in-Some
returns-in-Some g c = ap (kind_found c.args.other) (sym c.in-Some.is ∙ c.entry_of.ensures) ∙ found_among c.args.words.now c.args.other c.args.wanted.now

pub returns-in-None : goal.returns-in-None
returns-in-None g c = ap (kind_found c.args.other) (sym c.in-None.is ∙ c.entry_of.ensures) ∙ found_among c.args.words.now c.args.other c.args.wanted.now
