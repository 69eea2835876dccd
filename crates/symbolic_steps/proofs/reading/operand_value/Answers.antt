use Rattle.symbolic_steps.proofs.ReadingLemmas.{null-valued, path-valued}
use Rattle.symbolic_steps.proofs.reading.operand_value.Goals as goal

pub returns-in-Null : goal.returns-in-Null
returns-in-Null c = λ line next wanted text s reaches is.
    null-valued c.args.l.now.types c.args.l.now.vars line next wanted text s c.args.w.now c.args.operand.now c.in-Null.is is

pub returns-in_ok-path_value-in-Path : goal.returns-in_ok-path_value-in-Path
returns-in_ok-path_value-in-Path c = λ line next wanted text s reaches is.
    path-valued c.args.l.now.types c.args.l.now.vars line next wanted text s c.path_value.new.w c.args.operand.now c.in-Path.path
    c.in_ok-path_value-in-Path.field-0 c.in-Path.is (c.in_ok-path_value-in-Path.ensures line next wanted text s reaches is)
