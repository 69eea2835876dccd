use Rattle.ws2s_decide.proofs.first_way.FirstWay.open.Goals as goal

pub returns : goal.returns
returns c = λ formulas ready. c.in_ok-room.ensures c.args.self.now.guide formulas
