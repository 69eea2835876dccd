use Rattle.std.proofs.lemmas.Option.{slice_get_within}
use Rattle.ws2s_context.proofs.OpeningLemmas.{opened-value}
use Rattle.ws2s_context.proofs.opening.opened.Goals as goal

pub opened_number-made-requires : goal.opened_number-made-requires
opened_number-made-requires c = slice_get_within c.args.interner.now c.args.id.0 c.requires.0 c.requires.1

pub returns-clause-value : goal.returns-clause-value
returns-clause-value c =
    opened-value c.args.interner.now c.opened_number-made.new.interner c.args.weigh.now c.args.id c.opened_number-made.result
    c.opened_number-made.ensures.there c.opened_number-made.ensures.opened
