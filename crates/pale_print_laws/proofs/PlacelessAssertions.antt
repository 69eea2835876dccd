-- What the acts that join assertions make, without places.
use Rattle.std.proofs.Common.{◌≡◌, [], ◌∷◌, ◌++◌, refl, sym, ap, ◌∙◌}
use Rattle.pale_syntax.specs.declared.tree.assertion.Assertion.{Assertion, roll-Assertion, out-roll-Assertion}
use Rattle.pale_syntax.specs.declared.tree.assertion.Assertion.TheVariants as assertion
use Rattle.pale_syntax.specs.declared.tree.assertion.Assertion.TheOpen.{Assertion-F}
use Rattle.pale_syntax.specs.declared.tree.assertion.Assertion.TheFolds.{map-Assertion}
use Rattle.pale_syntax.specs.MakingAssertions.{and_by, or_by, iff_by, both, either, equivalent, alone_in, path_alone}
use Rattle.pale_print.specs.Placeless.{placeless_path, placeless_assertion}
use Rattle.pale_print_laws.proofs.StackLemmas.{map-last}
use Rattle.pale_print_laws.proofs.PlacelessForms.{assertion-And, assertion-Or, assertion-Iff}
use Rattle.pale_print_laws.proofs.AssertionShapes.{opened_assertion, shape, placeless-out}

and_by-placeless : (x : Assertion-F Assertion) (one : Assertion) (other : Assertion) →
    placeless_assertion (and_by x one other) ≡ and_by (shape (map-Assertion Assertion Assertion placeless_assertion x))
    (placeless_assertion one) (placeless_assertion other)
unfolding shape
and_by-placeless (Assertion-F.And first others) one other =
    assertion-And first (others ++ other ∷ [])
    ∙ ap (assertion.And (placeless_assertion first)) (map-last placeless_assertion others other)
and_by-placeless _ one other = assertion-And one (other ∷ [])

pub both-placeless : (one : Assertion) (other : Assertion) → placeless_assertion (both one other) ≡ both (placeless_assertion one) (placeless_assertion other)
both-placeless =
    opened_assertion
    (λ one. (other : Assertion) → placeless_assertion (both one other) ≡ both (placeless_assertion one) (placeless_assertion other))
    (λ x other.
    ap (λ (n : Assertion-F Assertion). placeless_assertion (and_by n (roll-Assertion x) other)) (out-roll-Assertion x)
    ∙ and_by-placeless x (roll-Assertion x) other
    ∙ sym (ap (λ (n : Assertion-F Assertion). and_by n (placeless_assertion (roll-Assertion x)) (placeless_assertion other)) (placeless-out x)))

or_by-placeless : (x : Assertion-F Assertion) (one : Assertion) (other : Assertion) →
    placeless_assertion (or_by x one other) ≡ or_by (shape (map-Assertion Assertion Assertion placeless_assertion x))
    (placeless_assertion one) (placeless_assertion other)
unfolding shape
or_by-placeless (Assertion-F.Or first others) one other =
    assertion-Or first (others ++ other ∷ [])
    ∙ ap (assertion.Or (placeless_assertion first)) (map-last placeless_assertion others other)
or_by-placeless _ one other = assertion-Or one (other ∷ [])

pub either-placeless : (one : Assertion) (other : Assertion) →
    placeless_assertion (either one other) ≡ either (placeless_assertion one) (placeless_assertion other)
either-placeless =
    opened_assertion
    (λ one. (other : Assertion) → placeless_assertion (either one other) ≡ either (placeless_assertion one) (placeless_assertion other))
    (λ x other.
    ap (λ (n : Assertion-F Assertion). placeless_assertion (or_by n (roll-Assertion x) other)) (out-roll-Assertion x)
    ∙ or_by-placeless x (roll-Assertion x) other
    ∙ sym (ap (λ (n : Assertion-F Assertion). or_by n (placeless_assertion (roll-Assertion x)) (placeless_assertion other)) (placeless-out x)))

iff_by-placeless : (x : Assertion-F Assertion) (one : Assertion) (other : Assertion) →
    placeless_assertion (iff_by x one other) ≡ iff_by (shape (map-Assertion Assertion Assertion placeless_assertion x))
    (placeless_assertion one) (placeless_assertion other)
unfolding shape
iff_by-placeless (Assertion-F.Iff first others) one other =
    assertion-Iff first (others ++ other ∷ [])
    ∙ ap (assertion.Iff (placeless_assertion first)) (map-last placeless_assertion others other)
iff_by-placeless _ one other = assertion-Iff one (other ∷ [])

pub equivalent-placeless : (one : Assertion) (other : Assertion) →
    placeless_assertion (equivalent one other) ≡ equivalent (placeless_assertion one) (placeless_assertion other)
equivalent-placeless =
    opened_assertion
    (λ one. (other : Assertion) → placeless_assertion (equivalent one other) ≡ equivalent (placeless_assertion one) (placeless_assertion other))
    (λ x other.
    ap (λ (n : Assertion-F Assertion). placeless_assertion (iff_by n (roll-Assertion x) other)) (out-roll-Assertion x)
    ∙ iff_by-placeless x (roll-Assertion x) other
    ∙ sym (ap (λ (n : Assertion-F Assertion). iff_by n (placeless_assertion (roll-Assertion x)) (placeless_assertion other)) (placeless-out x)))

alone_in-placeless : (x : Assertion-F Assertion) → placeless_path (alone_in x) ≡ alone_in (shape (map-Assertion Assertion Assertion placeless_assertion x))
unfolding shape
alone_in-placeless (Assertion-F.Truth p) = refl
alone_in-placeless _ = refl

pub path_alone-placeless : (one : Assertion) → placeless_path (path_alone one) ≡ path_alone (placeless_assertion one)
path_alone-placeless = opened_assertion (λ one. placeless_path (path_alone one) ≡ path_alone (placeless_assertion one)) (λ x.
    ap (λ (n : Assertion-F Assertion). placeless_path (alone_in n)) (out-roll-Assertion x) ∙ alone_in-placeless x ∙ sym (ap alone_in (placeless-out x)))
