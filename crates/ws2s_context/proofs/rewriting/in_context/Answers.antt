use Rattle.std.proofs.lemmas.Option.{slice_get_within}
use Rattle.ws2s_context.proofs.rewriting.in_context.Goals as goal

pub rewritten-made-requires : goal.rewritten-made-requires
rewritten-made-requires c = slice_get_within c.args.interner.now c.args.id.0 c.requires.0 c.requires.1
