-- How tightly the constructs of a chain bind, from the loosest, as the numbers that the spelling counts by.
use Rattle.std.specs.Prelude.{ℕ}
use Rattle.pale_print.specs.declared.tightness.AssertionTightness.{AssertionTightness}
use Rattle.pale_print.specs.declared.tightness.AssertionTightness.TheVariants as assertion
use Rattle.pale_print.specs.declared.tightness.ConditionTightness.{ConditionTightness}
use Rattle.pale_print.specs.declared.tightness.ConditionTightness.TheVariants as condition
use Rattle.pale_print.specs.declared.tightness.RouteTightness.{RouteTightness}
use Rattle.pale_print.specs.declared.tightness.RouteTightness.TheVariants as route

-- `<=>` 0, `=>` 1, `|` 2, `&` 3, all others 4
abbrev pub assertion_tightness : AssertionTightness → ℕ
assertion_tightness assertion.Equivalence = 0
assertion_tightness assertion.Implication = 1
assertion_tightness assertion.Disjunction = 2
assertion_tightness assertion.Conjunction = 3
assertion_tightness assertion.Single = 4

-- `||` 0, `&&` 1, all others 2
abbrev pub condition_tightness : ConditionTightness → ℕ
condition_tightness condition.Disjunction = 0
condition_tightness condition.Conjunction = 1
condition_tightness condition.Single = 2

-- `+` 0, `.` 1, `*` 2, a single step 3
abbrev pub route_tightness : RouteTightness → ℕ
route_tightness route.Choice = 0
route_tightness route.Sequence = 1
route_tightness route.Repetition = 2
route_tightness route.Step = 3
