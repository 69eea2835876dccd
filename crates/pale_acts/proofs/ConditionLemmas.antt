-- Conditions, form by form: their faults, and what they are typed as.
use Rattle.std.proofs.Common.{◌≡◌, List, [], ◌∷◌, map, None, refl, sym, ap, ◌∙◌}
use Rattle.pale_text.specs.declared.place.Pos.{Pos}
use Rattle.pale_syntax.specs.declared.tree.names.Name.{Name}
use Rattle.pale_syntax.specs.declared.tree.names.Term.{Term}
use Rattle.pale_syntax.specs.declared.tree.condition.Condition.{Condition, roll-Condition}
use Rattle.pale_syntax.specs.declared.tree.condition.Condition.TheVariants as form
use Rattle.pale_syntax.specs.declared.tree.condition.Condition.TheOpen.{Condition-F}
use Rattle.pale_syntax.specs.declared.tree.condition.Condition.TheFolds.{map-Condition, fold-roll-Condition}
use Rattle.store_core.specs.Tables.{TypeEntry}
use Rattle.store_logic.specs.declared.cond.Cond.{Cond}
use Rattle.store_logic.specs.declared.cond.Cond.TheVariants as cond
use Rattle.pale_tables.specs.Faults.{Fault, ◌>>◌, first_of}
use Rattle.pale_terms.specs.Visibles.{Entry}
use Rattle.pale_terms.specs.Terms.{compared_fault, variant_test_fault}
use Rattle.pale_acts.specs.declared.conditions.Junction.TheVariants as junction
use Rattle.pale_acts.specs.Conditions.{truth_fault, truth_of, same_of, is_of, chained, negated, typing_rules, fault_rules, condition_fault, typed_condition}

module _ (types : List TypeEntry) (scope : List Entry) where
  pub fault_form : (c : Condition) (x : Condition-F Condition) → c ≡ roll-Condition x →
      condition_fault types scope c ≡ fault_rules types scope (map-Condition Condition Fault (condition_fault types scope) x)
  unfolding condition_fault
  fault_form c x is = ap (condition_fault types scope) is ∙ fold-roll-Condition Fault (fault_rules types scope) x

  pub typed_form : (c : Condition) (x : Condition-F Condition) → c ≡ roll-Condition x →
      typed_condition types scope c ≡ typing_rules types scope (map-Condition Condition Cond (typed_condition types scope) x)
  unfolding typed_condition
  typed_form c x is = ap (typed_condition types scope) is ∙ fold-roll-Condition Cond (typing_rules types scope) x

  -- the parts of a chain
  each_fault : (others : List Condition) →
      first_of (λ (next : Fault). next) (map (condition_fault types scope) others) ≡ first_of (condition_fault types scope) others
  each_fault [] = refl
  each_fault (c ∷ others) = ap (λ rest. condition_fault types scope c >> rest) (each_fault others)

  -- ---- each form

  pub fault-True : (place : Pos) → condition_fault types scope (form.True place) ≡ None
  fault-True place = fault_form _ (Condition-F.True place) (sym (form.rolls-True place))

  pub typed-True : (place : Pos) → typed_condition types scope (form.True place) ≡ cond.True
  typed-True place = typed_form _ (Condition-F.True place) (sym (form.rolls-True place))

  pub fault-False : (place : Pos) → condition_fault types scope (form.False place) ≡ None
  fault-False place = fault_form _ (Condition-F.False place) (sym (form.rolls-False place))

  pub typed-False : (place : Pos) → typed_condition types scope (form.False place) ≡ cond.False
  typed-False place = typed_form _ (Condition-F.False place) (sym (form.rolls-False place))

  pub fault-Truth : (t : Term) → condition_fault types scope (form.Truth t) ≡ truth_fault types scope t
  fault-Truth t = fault_form _ (Condition-F.Truth t) (sym (form.rolls-Truth t))

  pub typed-Truth : (t : Term) → typed_condition types scope (form.Truth t) ≡ truth_of types scope t
  typed-Truth t = typed_form _ (Condition-F.Truth t) (sym (form.rolls-Truth t))

  pub fault-Same : (t : Term) (operator : Pos) (u : Term) → condition_fault types scope (form.Same t operator u) ≡ compared_fault types scope t operator u
  fault-Same t operator u = fault_form _ (Condition-F.Same t operator u) (sym (form.rolls-Same t operator u))

  pub typed-Same : (t : Term) (operator : Pos) (u : Term) → typed_condition types scope (form.Same t operator u) ≡ same_of types scope t u
  typed-Same t operator u = typed_form _ (Condition-F.Same t operator u) (sym (form.rolls-Same t operator u))

  pub fault-Differ : (t : Term) (operator : Pos) (u : Term) → condition_fault types scope (form.Differ t operator u) ≡ compared_fault types scope t operator u
  fault-Differ t operator u = fault_form _ (Condition-F.Differ t operator u) (sym (form.rolls-Differ t operator u))

  pub typed-Differ : (t : Term) (operator : Pos) (u : Term) → typed_condition types scope (form.Differ t operator u) ≡ negated (same_of types scope t u)
  typed-Differ t operator u = typed_form _ (Condition-F.Differ t operator u) (sym (form.rolls-Differ t operator u))

  pub fault-Is : (t : Term) (colon : Pos) (v : Name) → condition_fault types scope (form.Is t colon v) ≡ variant_test_fault types scope t colon v
  fault-Is t colon v = fault_form _ (Condition-F.Is t colon v) (sym (form.rolls-Is t colon v))

  pub typed-Is : (t : Term) (colon : Pos) (v : Name) → typed_condition types scope (form.Is t colon v) ≡ is_of types scope t v
  typed-Is t colon v = typed_form _ (Condition-F.Is t colon v) (sym (form.rolls-Is t colon v))

  pub fault-Not : (place : Pos) (c : Condition) → condition_fault types scope (form.Not place c) ≡ condition_fault types scope c
  fault-Not place c = fault_form _ (Condition-F.Not place c) (sym (form.rolls-Not place c))

  pub typed-Not : (place : Pos) (c : Condition) → typed_condition types scope (form.Not place c) ≡ negated (typed_condition types scope c)
  typed-Not place c = typed_form _ (Condition-F.Not place c) (sym (form.rolls-Not place c))

  pub fault-And : (first : Condition) (others : List Condition) →
      condition_fault types scope (form.And first others) ≡ (condition_fault types scope first >> first_of (condition_fault types scope) others)
  fault-And first others =
      fault_form _ (Condition-F.And first others) (sym (form.rolls-And first others))
      ∙ ap (λ rest. condition_fault types scope first >> rest) (each_fault others)

  pub typed-And : (first : Condition) (others : List Condition) →
      typed_condition types scope (form.And first others) ≡ chained junction.And (typed_condition types scope first) (map (typed_condition types scope) others)
  typed-And first others = typed_form _ (Condition-F.And first others) (sym (form.rolls-And first others))

  pub fault-Or : (first : Condition) (others : List Condition) →
      condition_fault types scope (form.Or first others) ≡ (condition_fault types scope first >> first_of (condition_fault types scope) others)
  fault-Or first others =
      fault_form _ (Condition-F.Or first others) (sym (form.rolls-Or first others))
      ∙ ap (λ rest. condition_fault types scope first >> rest) (each_fault others)

  pub typed-Or : (first : Condition) (others : List Condition) →
      typed_condition types scope (form.Or first others) ≡ chained junction.Or (typed_condition types scope first) (map (typed_condition types scope) others)
  typed-Or first others = typed_form _ (Condition-F.Or first others) (sym (form.rolls-Or first others))

-- each form
pub ruleset condition_forms = (
  fault-True,
  typed-True,
  fault-False,
  typed-False,
  fault-Truth,
  typed-Truth,
  fault-Same,
  typed-Same,
  fault-Differ,
  typed-Differ,
  fault-Is,
  typed-Is,
  fault-Not,
  typed-Not,
  fault-And,
  typed-And,
  fault-Or,
  typed-Or,
)
