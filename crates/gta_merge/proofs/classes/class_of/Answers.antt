-- The class is known, or the line is looked at.
use Rattle.std.proofs.Common.{sym}
use Rattle.gta_merge.specs.Classes.{known, looks}
use Rattle.gta_merge.proofs.classes.class_of.Goals as goal

pub returns-in-Some : goal.returns-in-Some
returns-in-Some c = known c.in-Some.class.now (sym c.in-Some.ensures.value)

pub returns : goal.returns
returns c = looks _ c.in_ok-class.class c.in_ok-line.line c.in_ok-line.ensures.line c.in_ok-class.ensures c.in_ok-insert.ensures.updates
