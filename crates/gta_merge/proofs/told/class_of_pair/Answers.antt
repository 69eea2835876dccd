-- The pair has a class, or it gets one.
use Rattle.std.proofs.Common.{sym}
use Rattle.gta_merge.specs.Told.{had_one, gets_one}
use Rattle.gta_merge.proofs.told.class_of_pair.Goals as goal

pub returns-in-Some : goal.returns-in-Some
returns-in-Some c = had_one c.in-Some.class.now (sym c.in-Some.ensures.value)

pub returns : goal.returns
returns c = gets_one c.insert.new.self c.args.state (sym c.in_default.ensures.value) c.in_ok-insert.ensures.updates
