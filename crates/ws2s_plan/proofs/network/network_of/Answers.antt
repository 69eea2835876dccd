use Rattle.std.proofs.lemmas.Option.{slice_get_within}
use Rattle.ws2s_plan.proofs.PlanLemmas.{network-value}
use Rattle.ws2s_plan.proofs.network.network_of.Goals as goal

pub planned-requires : goal.planned-requires
planned-requires c = slice_get_within c.args.interner.now c.args.id.0 c.requires.0 c.requires.1

pub returns-clause-value : goal.returns-clause-value
returns-clause-value c =
    network-value c.args.interner.now c.planned.new.interner c.args.weigh.now c.args.id c.in_ok-made.made c.in_ok-made.ensures.value
