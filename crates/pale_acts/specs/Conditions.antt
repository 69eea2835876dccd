-- Conditions: a rule for what each is typed as, and one for its faults, parts from the left.
use Rattle.std.specs.Prelude.{Bool, false, List, fold, None}
use Rattle.pale_text.specs.declared.refusal.RefusalKind.TheVariants as kind
use Rattle.pale_syntax.specs.declared.tree.names.Name.{Name}
use Rattle.pale_syntax.specs.declared.tree.names.Term as source
use Rattle.pale_syntax.specs.declared.tree.condition.Condition.{Condition}
use Rattle.pale_syntax.specs.declared.tree.condition.Condition.TheOpen.{Condition-F}
use Rattle.pale_syntax.specs.declared.tree.condition.Condition.TheFolds.{fold-Condition}
use Rattle.store_core.specs.declared.ids.VariantId.{VariantId}
use Rattle.store_core.specs.Tables.{TypeEntry}
use Rattle.store_logic.specs.declared.cond.Cond.{Cond}
use Rattle.store_logic.specs.declared.cond.Cond.TheVariants as cond
use Rattle.pale_tables.specs.Faults.{Fault, need, ◌>>◌, first_of}
use Rattle.pale_terms.specs.declared.terms.TypedTerm.{TypedTerm}
use Rattle.pale_terms.specs.declared.terms.TypedTerm.TheVariants as typed
use Rattle.pale_terms.specs.Sorts.{is_truth}
use Rattle.pale_terms.specs.Visibles.{Entry}
use Rattle.pale_terms.specs.Terms.{typed_term, variant_test, term_fault, compared_fault, variant_test_fault}
use Rattle.pale_acts.specs.declared.conditions.Junction.{Junction}
use Rattle.pale_acts.specs.declared.conditions.Junction.TheVariants as junction
use Rattle.pale_acts.specs.Operands.{path_in, operand_in, first_place}

-- ---- conditions without parts

-- a term alone is a path to a truth value
abbrev pub is_truth_path : TypedTerm → Bool
is_truth_path typed.Null = false
is_truth_path (typed.Path p) = is_truth p.sort

unfoldable pub truth_fault : List TypeEntry → List Entry → source.Term → Fault
truth_fault types scope t = term_fault types scope t >> need (is_truth_path (typed_term types scope t)) kind.Type (first_place t)

-- null, which is refused, counts as false
abbrev pub truth_in : TypedTerm → Cond
truth_in typed.Null = cond.False
truth_in (typed.Path p) = cond.Bool (path_in p)

unfoldable pub truth_of : List TypeEntry → List Entry → source.Term → Cond
truth_of types scope t = truth_in (typed_term types scope t)

-- `t == u`, whose faults are those of a comparison
unfoldable pub same_of : List TypeEntry → List Entry → source.Term → source.Term → Cond
same_of types scope t u = cond.Same (operand_in (typed_term types scope t)) (operand_in (typed_term types scope u))

-- `t : v`, whose faults are those of a test for a variant; null, which is refused, counts as false
abbrev pub is_in : TypedTerm → VariantId → Cond
is_in typed.Null variant = cond.False
is_in (typed.Path p) variant = cond.Is (path_in p) variant

unfoldable pub is_of : List TypeEntry → List Entry → source.Term → Name → Cond
is_of types scope t v = let test = variant_test types scope t v in is_in test.0 test.1

-- ---- what is joined

abbrev pub joined : Junction → Cond → Cond → Cond
joined junction.And a b = cond.And a b
joined junction.Or a b = cond.Or a b

-- a chain groups to the left
abbrev pub chained : Junction → Cond → List Cond → Cond
chained by first others = fold (joined by) first others

abbrev pub negated : Cond → Cond
negated c = cond.Not c

-- ---- all forms

abbrev pub typing_rules : List TypeEntry → List Entry → Condition-F Cond → Cond
typing_rules types scope (Condition-F.True place) = cond.True
typing_rules types scope (Condition-F.False place) = cond.False
typing_rules types scope (Condition-F.Truth t) = truth_of types scope t
typing_rules types scope (Condition-F.Same t operator u) = same_of types scope t u
typing_rules types scope (Condition-F.Differ t operator u) = negated (same_of types scope t u)
typing_rules types scope (Condition-F.Is t colon v) = is_of types scope t v
typing_rules types scope (Condition-F.Not place c) = negated c
typing_rules types scope (Condition-F.And first others) = chained junction.And first others
typing_rules types scope (Condition-F.Or first others) = chained junction.Or first others

-- the condition with its names looked up
unfoldable pub typed_condition : List TypeEntry → List Entry → Condition → Cond
typed_condition types scope = fold-Condition Cond (typing_rules types scope)

abbrev pub fault_rules : List TypeEntry → List Entry → Condition-F Fault → Fault
fault_rules types scope (Condition-F.True place) = None
fault_rules types scope (Condition-F.False place) = None
fault_rules types scope (Condition-F.Truth t) = truth_fault types scope t
fault_rules types scope (Condition-F.Same t operator u) = compared_fault types scope t operator u
fault_rules types scope (Condition-F.Differ t operator u) = compared_fault types scope t operator u
fault_rules types scope (Condition-F.Is t colon v) = variant_test_fault types scope t colon v
fault_rules types scope (Condition-F.Not place c) = c
fault_rules types scope (Condition-F.And first others) = first >> first_of (λ next. next) others
fault_rules types scope (Condition-F.Or first others) = first >> first_of (λ next. next) others

-- the first fault of a condition
unfoldable pub condition_fault : List TypeEntry → List Entry → Condition → Fault
condition_fault types scope = fold-Condition Fault (fault_rules types scope)
