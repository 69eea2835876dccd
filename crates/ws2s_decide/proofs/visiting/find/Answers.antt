use Rattle.ws2s_decide.proofs.visiting.find.Goals as goal

pub returns-then-is_last-clause-ok : goal.returns-then-is_last-clause-ok
returns-then-is_last-clause-ok c = λ g. c.take.ensures.passes g c.args.shelf.now
