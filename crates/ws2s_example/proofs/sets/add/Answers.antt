use Rattle.ws2s_example.proofs.TextsLemmas.{adds-insert, ascend-keys}
use Rattle.ws2s_example.proofs.sets.add.Goals as goal

pub returns-clause-added : goal.returns-clause-added
returns-clause-added c =
    adds-insert c.args.set.now c.insert.new.self c.in_ok-copy.copy c.args.text.now c.in_ok-copy.ensures.items c.in_ok-insert.ensures.keys

pub returns-clause-ascend : goal.returns-clause-ascend
returns-clause-ascend c = ascend-keys c.insert.new.self.keys c.in_ok-insert.ensures.ordered
