use Rattle.ws2s_facts.proofs.ConjunctsLemmas.{chosen-swapped}
use Rattle.ws2s_context.proofs.context.chosen_beside.Goals as goal

pub returns-then-is_whole : goal.returns-then-is_whole
returns-then-is_whole c = chosen-swapped c.args.members.now c.args.of_left.now c.chosen_of_both.result c.chosen_of_both.ensures
