use Rattle.ws2s_facts.proofs.ConjunctsLemmas.{IsAmong-both}
use Rattle.ws2s_context.proofs.context.chosen_of_both.Goals as goal

pub returns : goal.returns
returns c =
    IsAmong-both c.new-chosen.result.items c.args.first.now c.args.second.now c.choose.new.chosen.items c.choose-2.new.chosen.items
    c.new-chosen.ensures.items c.in_ok-choose.ensures c.in_ok-choose-2.ensures
