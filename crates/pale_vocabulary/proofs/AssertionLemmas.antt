-- Assertions, form by form: their faults, and what they are typed as.
use Rattle.std.proofs.Common.{◌≡◌, List, [], ◌∷◌, map, None, refl, sym, ap, ◌∙◌}
use Rattle.pale_text.specs.declared.place.Pos.{Pos}
use Rattle.pale_syntax.specs.declared.tree.names.Name.{Name}
use Rattle.pale_syntax.specs.declared.tree.names.Path.{Path}
use Rattle.pale_syntax.specs.declared.tree.names.Term.{Term}
use Rattle.pale_syntax.specs.declared.tree.route.Route.{Route}
use Rattle.pale_syntax.specs.declared.tree.assertion.Quantifier.{Quantifier}
use Rattle.pale_syntax.specs.declared.tree.assertion.Assertion as source
use Rattle.pale_syntax.specs.declared.tree.assertion.Assertion.TheVariants as form
use Rattle.pale_syntax.specs.declared.tree.assertion.Assertion.TheOpen.{Assertion-F}
use Rattle.pale_syntax.specs.declared.tree.assertion.Assertion.TheFolds.{map-Assertion, fold-roll-Assertion}
use Rattle.store_logic.specs.declared.assertion.Assertion.{Assertion}
use Rattle.store_logic.specs.declared.assertion.Assertion.TheVariants as assertion
use Rattle.pale_tables.specs.Faults.{Fault, ◌>>◌, first_of}
use Rattle.pale_terms.specs.Visibles.{Entry}
use Rattle.pale_terms.specs.Terms.{compared_fault, variant_test_fault}
use Rattle.pale_vocabulary.specs.declared.vocabulary.Vocabulary.{Vocabulary}
use Rattle.pale_vocabulary.specs.declared.connective.Connective.TheVariants as connective
use Rattle.pale_vocabulary.specs.Arguments.{use_fault, use_of}
use Rattle.pale_vocabulary.specs.Atoms.{truth_fault, truth_of, same_of, member_fault, member_of, subset_fault, subset_of, walk_fault, walk_of, is_of}
use Rattle.pale_vocabulary.specs.Connectives.{connected, chained, negated}
use Rattle.pale_vocabulary.specs.Assertions.{each_in, typing_rules, fault_rules, assertion_fault, typed_assertion, inside_fault, governed}

module _ (v : Vocabulary) (scope : List Entry) where
  pub fault_form : (a : source.Assertion) (x : Assertion-F source.Assertion) → a ≡ source.roll-Assertion x →
      assertion_fault v scope a ≡ fault_rules v (map-Assertion source.Assertion (List Entry → Fault) (λ b s. assertion_fault v s b) x) scope
  unfolding assertion_fault
  fault_form a x is = ap (assertion_fault v scope) is ∙ ap (λ f. f scope) (fold-roll-Assertion (List Entry → Fault) (fault_rules v) x)

  pub typed_form : (a : source.Assertion) (x : Assertion-F source.Assertion) → a ≡ source.roll-Assertion x →
      typed_assertion v scope a ≡ typing_rules v (map-Assertion source.Assertion (List Entry → Assertion) (λ b s. typed_assertion v s b) x) scope
  unfolding typed_assertion
  typed_form a x is = ap (typed_assertion v scope) is ∙ ap (λ f. f scope) (fold-roll-Assertion (List Entry → Assertion) (typing_rules v) x)

  -- the parts of a chain, each in the scope of the whole
  each_fault : (others : List source.Assertion) →
      first_of (λ (next : List Entry → Fault). next scope) (map (λ b s. assertion_fault v s b) others) ≡ first_of (assertion_fault v scope) others
  each_fault [] = refl
  each_fault (a ∷ others) = ap (λ rest. assertion_fault v scope a >> rest) (each_fault others)

  each_typed : (others : List source.Assertion) → each_in scope (map (λ b s. typed_assertion v s b) others) ≡ map (typed_assertion v scope) others
  each_typed [] = refl
  each_typed (a ∷ others) = ap (λ rest. typed_assertion v scope a ∷ rest) (each_typed others)

  -- ---- each form

  pub fault-True : assertion_fault v scope form.True ≡ None
  fault-True = fault_form _ Assertion-F.True (sym form.rolls-True)

  pub typed-True : typed_assertion v scope form.True ≡ assertion.True
  typed-True = typed_form _ Assertion-F.True (sym form.rolls-True)

  pub fault-False : assertion_fault v scope form.False ≡ None
  fault-False = fault_form _ Assertion-F.False (sym form.rolls-False)

  pub typed-False : typed_assertion v scope form.False ≡ assertion.False
  typed-False = typed_form _ Assertion-F.False (sym form.rolls-False)

  pub fault-Truth : (p : Path) → assertion_fault v scope (form.Truth p) ≡ truth_fault v.types scope p
  fault-Truth p = fault_form _ (Assertion-F.Truth p) (sym (form.rolls-Truth p))

  pub typed-Truth : (p : Path) → typed_assertion v scope (form.Truth p) ≡ truth_of v.types scope p
  typed-Truth p = typed_form _ (Assertion-F.Truth p) (sym (form.rolls-Truth p))

  pub fault-Same : (t : Term) (operator : Pos) (u : Term) →
      assertion_fault v scope (form.Same t operator u) ≡ compared_fault v.types scope t operator u
  fault-Same t operator u = fault_form _ (Assertion-F.Same t operator u) (sym (form.rolls-Same t operator u))

  pub typed-Same : (t : Term) (operator : Pos) (u : Term) →
      typed_assertion v scope (form.Same t operator u) ≡ same_of v.types scope t u
  typed-Same t operator u = typed_form _ (Assertion-F.Same t operator u) (sym (form.rolls-Same t operator u))

  pub fault-Differ : (t : Term) (operator : Pos) (u : Term) →
      assertion_fault v scope (form.Differ t operator u) ≡ compared_fault v.types scope t operator u
  fault-Differ t operator u = fault_form _ (Assertion-F.Differ t operator u) (sym (form.rolls-Differ t operator u))

  pub typed-Differ : (t : Term) (operator : Pos) (u : Term) →
      typed_assertion v scope (form.Differ t operator u) ≡ negated (same_of v.types scope t u)
  typed-Differ t operator u = typed_form _ (Assertion-F.Differ t operator u) (sym (form.rolls-Differ t operator u))

  pub fault-Member : (t : Term) (word : Pos) (set : Name) →
      assertion_fault v scope (form.Member t word set) ≡ member_fault v.types scope t word set
  fault-Member t word set = fault_form _ (Assertion-F.Member t word set) (sym (form.rolls-Member t word set))

  pub typed-Member : (t : Term) (word : Pos) (set : Name) →
      typed_assertion v scope (form.Member t word set) ≡ member_of v.types scope t set
  typed-Member t word set = typed_form _ (Assertion-F.Member t word set) (sym (form.rolls-Member t word set))

  pub fault-Subset : (t : Term) (word : Pos) (other : Name) →
      assertion_fault v scope (form.Subset t word other) ≡ subset_fault scope t word other
  fault-Subset t word other = fault_form _ (Assertion-F.Subset t word other) (sym (form.rolls-Subset t word other))

  pub typed-Subset : (t : Term) (word : Pos) (other : Name) →
      typed_assertion v scope (form.Subset t word other) ≡ subset_of scope t other
  typed-Subset t word other = typed_form _ (Assertion-F.Subset t word other) (sym (form.rolls-Subset t word other))

  pub fault-Walk : (t : Term) (angle : Pos) (along : Route) (u : Term) →
      assertion_fault v scope (form.Walk t angle along u) ≡ walk_fault v scope t angle along u
  fault-Walk t angle along u = fault_form _ (Assertion-F.Walk t angle along u) (sym (form.rolls-Walk t angle along u))

  pub typed-Walk : (t : Term) (angle : Pos) (along : Route) (u : Term) →
      typed_assertion v scope (form.Walk t angle along u) ≡ walk_of v scope t along u
  typed-Walk t angle along u = typed_form _ (Assertion-F.Walk t angle along u) (sym (form.rolls-Walk t angle along u))

  pub fault-Is : (t : Term) (colon : Pos) (variant : Name) →
      assertion_fault v scope (form.Is t colon variant) ≡ variant_test_fault v.types scope t colon variant
  fault-Is t colon variant = fault_form _ (Assertion-F.Is t colon variant) (sym (form.rolls-Is t colon variant))

  pub typed-Is : (t : Term) (colon : Pos) (variant : Name) →
      typed_assertion v scope (form.Is t colon variant) ≡ is_of v.types scope t variant
  typed-Is t colon variant = typed_form _ (Assertion-F.Is t colon variant) (sym (form.rolls-Is t colon variant))

  pub fault-Use : (p : Name) (paths : List Path) → assertion_fault v scope (form.Use p paths) ≡ use_fault v scope p paths
  fault-Use p paths = fault_form _ (Assertion-F.Use p paths) (sym (form.rolls-Use p paths))

  pub typed-Use : (p : Name) (paths : List Path) → typed_assertion v scope (form.Use p paths) ≡ use_of v scope p paths
  typed-Use p paths = typed_form _ (Assertion-F.Use p paths) (sym (form.rolls-Use p paths))

  pub fault-Not : (place : Pos) (a : source.Assertion) → assertion_fault v scope (form.Not place a) ≡ assertion_fault v scope a
  fault-Not place a = fault_form _ (Assertion-F.Not place a) (sym (form.rolls-Not place a))

  pub typed-Not : (place : Pos) (a : source.Assertion) →
      typed_assertion v scope (form.Not place a) ≡ negated (typed_assertion v scope a)
  typed-Not place a = typed_form _ (Assertion-F.Not place a) (sym (form.rolls-Not place a))

  pub fault-And : (first : source.Assertion) (others : List source.Assertion) →
      assertion_fault v scope (form.And first others) ≡ (assertion_fault v scope first >> first_of (assertion_fault v scope) others)
  fault-And first others =
      fault_form _ (Assertion-F.And first others) (sym (form.rolls-And first others))
      ∙ ap (λ rest. assertion_fault v scope first >> rest) (each_fault others)

  pub typed-And : (first : source.Assertion) (others : List source.Assertion) →
      typed_assertion v scope (form.And first others) ≡ chained connective.And (typed_assertion v scope first) (map (typed_assertion v scope) others)
  typed-And first others =
      typed_form _ (Assertion-F.And first others) (sym (form.rolls-And first others))
      ∙ ap (chained connective.And (typed_assertion v scope first)) (each_typed others)

  pub fault-Or : (first : source.Assertion) (others : List source.Assertion) →
      assertion_fault v scope (form.Or first others) ≡ (assertion_fault v scope first >> first_of (assertion_fault v scope) others)
  fault-Or first others =
      fault_form _ (Assertion-F.Or first others) (sym (form.rolls-Or first others))
      ∙ ap (λ rest. assertion_fault v scope first >> rest) (each_fault others)

  pub typed-Or : (first : source.Assertion) (others : List source.Assertion) →
      typed_assertion v scope (form.Or first others) ≡ chained connective.Or (typed_assertion v scope first) (map (typed_assertion v scope) others)
  typed-Or first others =
      typed_form _ (Assertion-F.Or first others) (sym (form.rolls-Or first others))
      ∙ ap (chained connective.Or (typed_assertion v scope first)) (each_typed others)

  pub fault-Imp : (a : source.Assertion) (place : Pos) (b : source.Assertion) →
      assertion_fault v scope (form.Imp a place b) ≡ (assertion_fault v scope a >> assertion_fault v scope b)
  fault-Imp a place b = fault_form _ (Assertion-F.Imp a place b) (sym (form.rolls-Imp a place b))

  pub typed-Imp : (a : source.Assertion) (place : Pos) (b : source.Assertion) →
      typed_assertion v scope (form.Imp a place b) ≡ connected connective.Imp (typed_assertion v scope a) (typed_assertion v scope b)
  typed-Imp a place b = typed_form _ (Assertion-F.Imp a place b) (sym (form.rolls-Imp a place b))

  pub fault-Iff : (first : source.Assertion) (others : List source.Assertion) →
      assertion_fault v scope (form.Iff first others) ≡ (assertion_fault v scope first >> first_of (assertion_fault v scope) others)
  fault-Iff first others =
      fault_form _ (Assertion-F.Iff first others) (sym (form.rolls-Iff first others))
      ∙ ap (λ rest. assertion_fault v scope first >> rest) (each_fault others)

  pub typed-Iff : (first : source.Assertion) (others : List source.Assertion) →
      typed_assertion v scope (form.Iff first others) ≡ chained connective.Iff (typed_assertion v scope first) (map (typed_assertion v scope) others)
  typed-Iff first others =
      typed_form _ (Assertion-F.Iff first others) (sym (form.rolls-Iff first others))
      ∙ ap (chained connective.Iff (typed_assertion v scope first)) (each_typed others)

  pub fault-Quantified : (q : Quantifier) (a : source.Assertion) →
      assertion_fault v scope (form.Quantified q a) ≡ inside_fault v scope q a
  fault-Quantified q a = fault_form _ (Assertion-F.Quantified q a) (sym (form.rolls-Quantified q a))

  pub typed-Quantified : (q : Quantifier) (a : source.Assertion) → typed_assertion v scope (form.Quantified q a) ≡ governed v scope q a
  typed-Quantified q a = typed_form _ (Assertion-F.Quantified q a) (sym (form.rolls-Quantified q a))

-- each form
pub ruleset assertion_forms = (
  fault-True,
  typed-True,
  fault-False,
  typed-False,
  fault-Truth,
  typed-Truth,
  fault-Same,
  typed-Same,
  fault-Differ,
  typed-Differ,
  fault-Member,
  typed-Member,
  fault-Subset,
  typed-Subset,
  fault-Walk,
  typed-Walk,
  fault-Is,
  typed-Is,
  fault-Use,
  typed-Use,
  fault-Not,
  typed-Not,
  fault-And,
  typed-And,
  fault-Or,
  typed-Or,
  fault-Imp,
  typed-Imp,
  fault-Iff,
  typed-Iff,
  fault-Quantified,
  typed-Quantified,
)
