-- What the acts that join conditions make, without places.
use Rattle.std.proofs.Common.{◌≡◌, [], ◌∷◌, ◌++◌, refl, sym, ap, ◌∙◌}
use Rattle.pale_syntax.specs.declared.tree.condition.Condition.{Condition, roll-Condition, out-roll-Condition}
use Rattle.pale_syntax.specs.declared.tree.condition.Condition.TheVariants as condition
use Rattle.pale_syntax.specs.declared.tree.condition.Condition.TheOpen.{Condition-F}
use Rattle.pale_syntax.specs.declared.tree.condition.Condition.TheFolds.{map-Condition}
use Rattle.pale_syntax.specs.MakingConditions.{and_by, or_by, both_conditions, either_condition, alone_in, term_alone}
use Rattle.pale_print.specs.Placeless.{placeless_term, placeless_condition}
use Rattle.pale_print_laws.proofs.StackLemmas.{map-last}
use Rattle.pale_print_laws.proofs.PlacelessForms.{condition-And, condition-Or}
use Rattle.pale_print_laws.proofs.ConditionShapes.{opened_condition, shape, placeless-out}

and_by-placeless : (x : Condition-F Condition) (one : Condition) (other : Condition) →
    placeless_condition (and_by x one other) ≡ and_by (shape (map-Condition Condition Condition placeless_condition x))
    (placeless_condition one) (placeless_condition other)
unfolding shape
and_by-placeless (Condition-F.And first others) one other =
    condition-And first (others ++ other ∷ [])
    ∙ ap (condition.And (placeless_condition first)) (map-last placeless_condition others other)
and_by-placeless _ one other = condition-And one (other ∷ [])

pub both_conditions-placeless : (one : Condition) (other : Condition) →
    placeless_condition (both_conditions one other) ≡ both_conditions (placeless_condition one) (placeless_condition other)
both_conditions-placeless =
    opened_condition (λ one. (other : Condition) → placeless_condition (both_conditions one other) ≡ both_conditions
    (placeless_condition one) (placeless_condition other)) (λ x other.
    ap (λ (n : Condition-F Condition). placeless_condition (and_by n (roll-Condition x) other)) (out-roll-Condition x)
    ∙ and_by-placeless x (roll-Condition x) other
    ∙ sym (ap (λ (n : Condition-F Condition). and_by n (placeless_condition (roll-Condition x)) (placeless_condition other)) (placeless-out x)))

or_by-placeless : (x : Condition-F Condition) (one : Condition) (other : Condition) →
    placeless_condition (or_by x one other) ≡ or_by (shape (map-Condition Condition Condition placeless_condition x))
    (placeless_condition one) (placeless_condition other)
unfolding shape
or_by-placeless (Condition-F.Or first others) one other =
    condition-Or first (others ++ other ∷ [])
    ∙ ap (condition.Or (placeless_condition first)) (map-last placeless_condition others other)
or_by-placeless _ one other = condition-Or one (other ∷ [])

pub either_condition-placeless : (one : Condition) (other : Condition) →
    placeless_condition (either_condition one other) ≡ either_condition (placeless_condition one) (placeless_condition other)
either_condition-placeless =
    opened_condition (λ one. (other : Condition) → placeless_condition (either_condition one other) ≡ either_condition
    (placeless_condition one) (placeless_condition other)) (λ x other.
    ap (λ (n : Condition-F Condition). placeless_condition (or_by n (roll-Condition x) other)) (out-roll-Condition x)
    ∙ or_by-placeless x (roll-Condition x) other
    ∙ sym (ap (λ (n : Condition-F Condition). or_by n (placeless_condition (roll-Condition x)) (placeless_condition other)) (placeless-out x)))

alone_in-placeless : (x : Condition-F Condition) → placeless_term (alone_in x) ≡ alone_in (shape (map-Condition Condition Condition placeless_condition x))
unfolding shape
alone_in-placeless (Condition-F.Truth t) = refl
alone_in-placeless _ = refl

pub term_alone-placeless : (one : Condition) → placeless_term (term_alone one) ≡ term_alone (placeless_condition one)
term_alone-placeless = opened_condition (λ one. placeless_term (term_alone one) ≡ term_alone (placeless_condition one)) (λ x.
    ap (λ (n : Condition-F Condition). placeless_term (alone_in n)) (out-roll-Condition x) ∙ alone_in-placeless x ∙ sym (ap alone_in (placeless-out x)))
