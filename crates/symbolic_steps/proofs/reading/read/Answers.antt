use Rattle.symbolic_steps.proofs.ReadingLemmas.{read-made}
use Rattle.symbolic_steps.proofs.reading.read.Goals as goal

pub returns : goal.returns
returns c = λ line next wanted text s reaches is.
    read-made c.args.l.now.types c.args.l.now.vars line next wanted text s c.check_access.new.w c.define.new.w c.args.field c.args.cell c.in_ok-own.own
    c.in_ok-definition.definition (c.in_ok-check_access.ensures line next wanted text s reaches is) c.in_ok-own.ensures c.in_ok-definition.ensures
    c.in_ok-define.ensures
