-- Assertions in their brackets, with the predicates put in.
use Rattle.std.specs.Prelude.{List, Option, Some, None}
use Rattle.pale_syntax.specs.declared.tree.assertion.Bracketed.{Bracketed}
use Rattle.store_logic.specs.declared.assertion.Assertion.{Assertion}
use Rattle.store_logic.specs.declared.assertion.Assertion.TheVariants as assertion
use Rattle.store_logic.specs.Expansion.{expansion}
use Rattle.pale_tables.specs.Faults.{Fault}
use Rattle.pale_terms.specs.Visibles.{Entry}
use Rattle.pale_vocabulary.specs.Assertions.{typed_assertion}
use Rattle.pale_vocabulary.specs.declared.vocabulary.Declared.{Declared}
use Rattle.pale_vocabulary.specs.Predicates.{bracketed_fault}

-- the assertion with its names looked up and the predicates put in
unfoldable pub stated : Declared → List Entry → Bracketed → Assertion
stated declared scope b = expansion declared.preds (typed_assertion declared.vocabulary scope b.assertion)

-- what is left out is true
abbrev pub stated_or_true : Declared → List Entry → Option Bracketed → Assertion
stated_or_true declared scope None = assertion.True
stated_or_true declared scope (Some b) = stated declared scope b

abbrev pub stated_fault : Declared → List Entry → Option Bracketed → Fault
stated_fault declared scope None = None
stated_fault declared scope (Some b) = bracketed_fault declared scope b
