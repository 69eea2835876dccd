use Rattle.std.proofs.Common.{sym, ap}
use Rattle.std.specs.HashMap.{get}
use Rattle.kernel_tests.proofs.NumberingLemmas.{same, pair_of, numbered-kept, numbered-only}
use Rattle.kernel_tests.proofs.joins.NumberingLeafRule.leaf.Goals as goal

pub returns-clause-kept : goal.returns-clause-kept
returns-clause-kept c =
    numbered-kept (get same c.args.self.now.numbers) (get same c.insert.new.self) _ _ c.in_ok-insert.ensures.updates.0 (sym c.in_default.ensures.value)

pub returns-clause-only : goal.returns-clause-only
returns-clause-only c =
    numbered-only (get same c.args.self.now.numbers) (get same c.insert.new.self) _ _ c.in_ok-insert.ensures.updates.0
    c.args.states.now c.requires (ap pair_of c.as_slice-states.ensures)
