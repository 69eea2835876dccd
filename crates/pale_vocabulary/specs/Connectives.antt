-- Assertions of others: connectives, and one quantifier for each name.
use Rattle.std.specs.Prelude.{Bool, true, false, List, fold}
use Rattle.pale_syntax.specs.declared.tree.assertion.Quantifier.{Quantifier}
use Rattle.pale_syntax.specs.declared.tree.assertion.QuantifierKind.{QuantifierKind}
use Rattle.pale_syntax.specs.declared.tree.assertion.QuantifierKind.TheVariants as some
use Rattle.store_core.specs.declared.ids.TypeId.{TypeId}
use Rattle.store_logic.specs.declared.assertion.Assertion.{Assertion}
use Rattle.store_logic.specs.declared.assertion.Assertion.TheVariants as assertion
use Rattle.pale_vocabulary.specs.declared.connective.Connective.{Connective}
use Rattle.pale_vocabulary.specs.declared.connective.Connective.TheVariants as connective

abbrev pub connected : Connective → Assertion → Assertion → Assertion
connected connective.And a b = assertion.And a b
connected connective.Or a b = assertion.Or a b
connected connective.Imp a b = assertion.Imp a b
connected connective.Iff a b = assertion.Iff a b

-- a chain groups to the left
abbrev pub chained : Connective → Assertion → List Assertion → Assertion
chained by first others = fold (connected by) first others

abbrev pub negated : Assertion → Assertion
negated a = assertion.Not a

abbrev pub quantified_once : Bool → QuantifierKind → TypeId → Assertion → Assertion
quantified_once false some.Ex ty a = assertion.Ex ty a
quantified_once false some.All ty a = assertion.All ty a
quantified_once true some.Ex ty a = assertion.ExSet ty a
quantified_once true some.All ty a = assertion.AllSet ty a

-- one quantifier for each name
abbrev pub quantified : Quantifier → TypeId → Assertion → Assertion
quantified q ty a = fold (λ inner name. quantified_once q.of_sets q.kind ty inner) a q.names
