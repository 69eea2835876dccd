use Rattle.ws2s_decide.proofs.decider.decide.Goals as goal

pub decide-verdict-requires : goal.decide-verdict-requires
decide-verdict-requires c =
    c.used_once-decider.ensures.kept c.args.shelf.now (c.in_ok-decider.ensures.kept c.args.shelf.now c.requires)
