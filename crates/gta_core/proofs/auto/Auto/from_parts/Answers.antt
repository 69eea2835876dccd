use Rattle.gta_core.proofs.auto.Auto.from_parts.Goals as goal

pub invariant_of-result : goal.invariant_of-result
invariant_of-result c = c.requires.whole _
