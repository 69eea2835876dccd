use Rattle.std.proofs.Common.{◌∙◌}
use Rattle.ws2s_core.proofs.PartsLemmas.{ArePartsOf-met}
use Rattle.ws2s_core.proofs.parts.parts_at.Goals as goal

pub returns : goal.returns
returns c = ArePartsOf-met c.args.nodes.now c.requires.earlier c.args.whole c.in_ok-ids.ids.items c.from_vec.result c.requires.once
    c.in_ok-ids.ensures (c.from_vec.ensures ∙ c.reverse.ensures.items)
