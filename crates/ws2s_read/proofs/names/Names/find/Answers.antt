use Rattle.ws2s_read.proofs.ResolvingLemmas.{table-has, known-Some, known-None}
use Rattle.ws2s_read.proofs.names.Names.find.Goals as goal

pub returns-in-Some-clause-meaning : goal.returns-in-Some-clause-meaning
returns-in-Some-clause-meaning c =
    known-Some c.args.self.now c.args.name.now c.in-Some.meaning.now
    (table-has c.args.self.now c.self.inside.meanings.entries c.args.name.now.bytes _ _ c.self.view_is c.as_slice.ensures c.in-Some.ensures.value)

pub returns-in-None-clause-stop : goal.returns-in-None-clause-stop
returns-in-None-clause-stop c =
    rw c.refused.ensures
    (known-None c.args.self.now c.args.name.now
    (table-has c.args.self.now c.self.inside.meanings.entries c.args.name.now.bytes _ _ c.self.view_is c.as_slice.ensures c.in-None.ensures.value))
