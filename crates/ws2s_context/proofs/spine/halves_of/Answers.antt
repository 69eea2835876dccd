use Rattle.ws2s_facts.proofs.ConjunctsLemmas.{IsConjunct-node}
use Rattle.ws2s_context.proofs.spine.halves_of.Goals as goal

pub returns-in-And : goal.returns-in-And
returns-in-And c = λ context conjunct.
    IsConjunct-node c.args.interner.now c.args.id c.in-And.f c.in-And.g c.in-Some.node c.in-Some.ensures.value c.in-Some.ensures.parts c.in-And.is
    context conjunct
