-- Conditions that are opened: what the acts that join them make.
use Rattle.std.proofs.Common.{◌≡◌, false, List, [], ◌∷◌, ◌++◌, refl, sym, ap, ◌∙◌}
use Rattle.pale_syntax.specs.declared.tree.names.Term.{Term}
use Rattle.pale_syntax.specs.declared.tree.condition.Condition.{Condition, out-Condition, roll-Condition, out-roll-Condition}
use Rattle.pale_syntax.specs.declared.tree.condition.Condition.TheVariants as condition
use Rattle.pale_syntax.specs.declared.tree.condition.Condition.TheVariants.{rolls-True, rolls-False, rolls-Truth, rolls-Same}
use Rattle.pale_syntax.specs.declared.tree.condition.Condition.TheVariants.{rolls-Differ, rolls-Is, rolls-Not, rolls-And}
use Rattle.pale_syntax.specs.declared.tree.condition.Condition.TheVariants.{rolls-Or}
use Rattle.pale_syntax.specs.declared.tree.condition.Condition.TheOpen.{Condition-F}
use Rattle.pale_syntax.specs.declared.tree.condition.Condition.TheFolds.{fold-roll-Condition, ind-Condition, map-Condition}
use Rattle.pale_syntax.specs.MakingConditions.{alone_in, and_by, both_conditions, either_condition, or_by, term_alone}
use Rattle.pale_print.specs.Placeless.{nowhere, placeless_name, placeless_term, placeless_condition_node, placeless_condition}
use Rattle.pale_print_laws.specs.CanonicalConditions.{is_and_node, is_or_node}

-- what is known of every opened condition is known of every condition
pub opened_condition : (P : Condition → Type 0) → ((x : Condition-F Condition) → P (roll-Condition x)) → (r : Condition) → P r
opened_condition P h = ind-Condition P (λ x y is. h x)

-- an opened condition without its places
unfoldable pub shape : Condition-F Condition → Condition-F Condition
shape (Condition-F.True place) = Condition-F.True nowhere
shape (Condition-F.False place) = Condition-F.False nowhere
shape (Condition-F.Truth t) = Condition-F.Truth (placeless_term t)
shape (Condition-F.Same t place u) = Condition-F.Same (placeless_term t) nowhere (placeless_term u)
shape (Condition-F.Differ t place u) = Condition-F.Differ (placeless_term t) nowhere (placeless_term u)
shape (Condition-F.Is t place variant) = Condition-F.Is (placeless_term t) nowhere (placeless_name variant)
shape (Condition-F.Not place inner) = Condition-F.Not nowhere inner
shape (Condition-F.And first others) = Condition-F.And first others
shape (Condition-F.Or first others) = Condition-F.Or first others

rolled : (x : Condition-F Condition) → placeless_condition_node x ≡ roll-Condition (shape x)
unfolding shape
rolled (Condition-F.True place) = sym (rolls-True nowhere)
rolled (Condition-F.False place) = sym (rolls-False nowhere)
rolled (Condition-F.Truth t) = sym (rolls-Truth (placeless_term t))
rolled (Condition-F.Same t place u) = sym (rolls-Same (placeless_term t) nowhere (placeless_term u))
rolled (Condition-F.Differ t place u) = sym (rolls-Differ (placeless_term t) nowhere (placeless_term u))
rolled (Condition-F.Is t place variant) = sym (rolls-Is (placeless_term t) nowhere (placeless_name variant))
rolled (Condition-F.Not place inner) = sym (rolls-Not nowhere inner)
rolled (Condition-F.And first others) = sym (rolls-And first others)
rolled (Condition-F.Or first others) = sym (rolls-Or first others)

pub placeless-out : (x : Condition-F Condition) →
    out-Condition (placeless_condition (roll-Condition x)) ≡ shape (map-Condition Condition Condition placeless_condition x)
unfolding placeless_condition
placeless-out x =
    ap out-Condition
    (fold-roll-Condition Condition placeless_condition_node x ∙ rolled (map-Condition Condition Condition placeless_condition x))
    ∙ out-roll-Condition _

and_by-first : (x : Condition-F Condition) → is_and_node x ≡ false → (one : Condition) (other : Condition) → and_by x one other ≡ condition.And one (other ∷ [])
and_by-first (Condition-F.And first others) is one other = absurd (cc is)
and_by-first _ is one other = refl

is_and_node-shape : (x : Condition-F Condition) → is_and_node (shape (map-Condition Condition Condition placeless_condition x)) ≡ is_and_node x
unfolding shape
is_and_node-shape (Condition-F.And first others) = refl
is_and_node-shape _ = refl

pub both_conditions-first : (first : Condition) → is_and_node (out-Condition first) ≡ false → (other : Condition) →
    both_conditions (placeless_condition first) other ≡ condition.And (placeless_condition first) (other ∷ [])
both_conditions-first =
    opened_condition (λ first. is_and_node (out-Condition first) ≡ false → (other : Condition) → both_conditions
    (placeless_condition first) other ≡ condition.And (placeless_condition first) (other ∷ [])) (λ x is other.
    and_by-first (out-Condition (placeless_condition (roll-Condition x)))
    (ap is_and_node (placeless-out x) ∙ is_and_node-shape x ∙ sym (ap is_and_node (out-roll-Condition x)) ∙ is) (placeless_condition (roll-Condition x)) other)

pub both_conditions-more : (first : Condition) (done : List Condition) (other : Condition) →
    both_conditions (condition.And first done) other ≡ condition.And first (done ++ other ∷ [])
both_conditions-more first done other =
    ap (λ (x : Condition-F Condition). and_by x (condition.And first done) other)
    (ap out-Condition (sym (rolls-And first done)) ∙ out-roll-Condition _)

or_by-first : (x : Condition-F Condition) → is_or_node x ≡ false → (one : Condition) (other : Condition) → or_by x one other ≡ condition.Or one (other ∷ [])
or_by-first (Condition-F.Or first others) is one other = absurd (cc is)
or_by-first _ is one other = refl

is_or_node-shape : (x : Condition-F Condition) → is_or_node (shape (map-Condition Condition Condition placeless_condition x)) ≡ is_or_node x
unfolding shape
is_or_node-shape (Condition-F.Or first others) = refl
is_or_node-shape _ = refl

pub either_condition-first : (first : Condition) → is_or_node (out-Condition first) ≡ false → (other : Condition) →
    either_condition (placeless_condition first) other ≡ condition.Or (placeless_condition first) (other ∷ [])
either_condition-first =
    opened_condition (λ first. is_or_node (out-Condition first) ≡ false → (other : Condition) → either_condition
    (placeless_condition first) other ≡ condition.Or (placeless_condition first) (other ∷ [])) (λ x is other.
    or_by-first (out-Condition (placeless_condition (roll-Condition x)))
    (ap is_or_node (placeless-out x) ∙ is_or_node-shape x ∙ sym (ap is_or_node (out-roll-Condition x)) ∙ is) (placeless_condition (roll-Condition x)) other)

pub either_condition-more : (first : Condition) (done : List Condition) (other : Condition) →
    either_condition (condition.Or first done) other ≡ condition.Or first (done ++ other ∷ [])
either_condition-more first done other =
    ap (λ (x : Condition-F Condition). or_by x (condition.Or first done) other)
    (ap out-Condition (sym (rolls-Or first done)) ∙ out-roll-Condition _)

pub term-alone : (t : Term) → term_alone (condition.Truth t) ≡ t
term-alone t = ap alone_in (ap out-Condition (sym (rolls-Truth t)) ∙ out-roll-Condition _)
