-- Assertions of any form: a rule for what each is typed as, and one for its faults, parts from the left.
use Rattle.std.specs.Prelude.{List, map, None}
use Rattle.pale_syntax.specs.declared.tree.assertion.Assertion as source
use Rattle.pale_syntax.specs.declared.tree.assertion.Assertion.TheOpen.{Assertion-F}
use Rattle.pale_syntax.specs.declared.tree.assertion.Assertion.TheFolds.{fold-Assertion}
use Rattle.pale_syntax.specs.declared.tree.assertion.Quantifier.{Quantifier}
use Rattle.store_logic.specs.declared.assertion.Assertion.{Assertion}
use Rattle.store_logic.specs.declared.assertion.Assertion.TheVariants as assertion
use Rattle.pale_tables.specs.Faults.{Fault, ◌>>◌, first_of}
use Rattle.pale_terms.specs.Visibles.{Entry}
use Rattle.pale_terms.specs.Terms.{compared_fault, variant_test_fault}
use Rattle.pale_vocabulary.specs.declared.vocabulary.Vocabulary.{Vocabulary}
use Rattle.pale_vocabulary.specs.declared.connective.Connective.TheVariants as connective
use Rattle.pale_vocabulary.specs.Arguments.{use_fault, use_of}
use Rattle.pale_vocabulary.specs.Atoms.{truth_fault, truth_of, same_of, member_fault, member_of, subset_fault, subset_of, walk_fault, walk_of, is_of}
use Rattle.pale_vocabulary.specs.Connectives.{connected, chained, negated, quantified}
use Rattle.pale_vocabulary.specs.Quantifiers.{quantifier_fault, bound_type, inside}

-- ---- what an assertion is typed as

-- parts in the same scope
abbrev pub each_in : {X : Type 0} → List Entry → List (List Entry → X) → List X
each_in scope parts = map (λ part. part scope) parts

-- a form each; what a quantifier governs is in the scope of its names
abbrev pub typing_rules : Vocabulary → Assertion-F (List Entry → Assertion) → List Entry → Assertion
typing_rules vocabulary Assertion-F.True scope = assertion.True
typing_rules vocabulary Assertion-F.False scope = assertion.False
typing_rules vocabulary (Assertion-F.Truth p) scope = truth_of vocabulary.types scope p
typing_rules vocabulary (Assertion-F.Same t operator u) scope = same_of vocabulary.types scope t u
typing_rules vocabulary (Assertion-F.Differ t operator u) scope = negated (same_of vocabulary.types scope t u)
typing_rules vocabulary (Assertion-F.Member t word set) scope = member_of vocabulary.types scope t set
typing_rules vocabulary (Assertion-F.Subset t word other) scope = subset_of scope t other
typing_rules vocabulary (Assertion-F.Walk t angle along u) scope = walk_of vocabulary scope t along u
typing_rules vocabulary (Assertion-F.Is t colon v) scope = is_of vocabulary.types scope t v
typing_rules vocabulary (Assertion-F.Use p paths) scope = use_of vocabulary scope p paths
typing_rules vocabulary (Assertion-F.Not place a) scope = negated (a scope)
typing_rules vocabulary (Assertion-F.And first others) scope = chained connective.And (first scope) (each_in scope others)
typing_rules vocabulary (Assertion-F.Or first others) scope = chained connective.Or (first scope) (each_in scope others)
typing_rules vocabulary (Assertion-F.Imp a place b) scope = connected connective.Imp (a scope) (b scope)
typing_rules vocabulary (Assertion-F.Iff first others) scope = chained connective.Iff (first scope) (each_in scope others)
typing_rules vocabulary (Assertion-F.Quantified q a) scope = quantified q (bound_type vocabulary.types q) (a (inside vocabulary.types scope q))

-- the assertion with its names looked up
unfoldable pub typed_assertion : Vocabulary → List Entry → source.Assertion → Assertion
typed_assertion vocabulary scope a = fold-Assertion (List Entry → Assertion) (typing_rules vocabulary) a scope

-- ---- faults

-- a form each
abbrev pub fault_rules : Vocabulary → Assertion-F (List Entry → Fault) → List Entry → Fault
fault_rules vocabulary Assertion-F.True scope = None
fault_rules vocabulary Assertion-F.False scope = None
fault_rules vocabulary (Assertion-F.Truth p) scope = truth_fault vocabulary.types scope p
fault_rules vocabulary (Assertion-F.Same t operator u) scope = compared_fault vocabulary.types scope t operator u
fault_rules vocabulary (Assertion-F.Differ t operator u) scope = compared_fault vocabulary.types scope t operator u
fault_rules vocabulary (Assertion-F.Member t word set) scope = member_fault vocabulary.types scope t word set
fault_rules vocabulary (Assertion-F.Subset t word other) scope = subset_fault scope t word other
fault_rules vocabulary (Assertion-F.Walk t angle along u) scope = walk_fault vocabulary scope t angle along u
fault_rules vocabulary (Assertion-F.Is t colon v) scope = variant_test_fault vocabulary.types scope t colon v
fault_rules vocabulary (Assertion-F.Use p paths) scope = use_fault vocabulary scope p paths
fault_rules vocabulary (Assertion-F.Not place a) scope = a scope
fault_rules vocabulary (Assertion-F.And first others) scope = first scope >> first_of (λ next. next scope) others
fault_rules vocabulary (Assertion-F.Or first others) scope = first scope >> first_of (λ next. next scope) others
fault_rules vocabulary (Assertion-F.Imp a place b) scope = a scope >> b scope
fault_rules vocabulary (Assertion-F.Iff first others) scope = first scope >> first_of (λ next. next scope) others
fault_rules vocabulary (Assertion-F.Quantified q a) scope = quantifier_fault vocabulary.types scope q >> a (inside vocabulary.types scope q)

-- the first fault of an assertion
unfoldable pub assertion_fault : Vocabulary → List Entry → source.Assertion → Fault
assertion_fault vocabulary scope a = fold-Assertion (List Entry → Fault) (fault_rules vocabulary) a scope

-- ---- a quantifier and what it governs

abbrev pub inside_fault : Vocabulary → List Entry → Quantifier → source.Assertion → Fault
inside_fault vocabulary scope q a = quantifier_fault vocabulary.types scope q >> assertion_fault vocabulary (inside vocabulary.types scope q) a

abbrev pub governed : Vocabulary → List Entry → Quantifier → source.Assertion → Assertion
governed vocabulary scope q a = quantified q (bound_type vocabulary.types q) (typed_assertion vocabulary (inside vocabulary.types scope q) a)
