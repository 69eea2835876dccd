-- Assertions that are opened: what the acts that join them make.
use Rattle.std.proofs.Common.{◌≡◌, false, List, [], ◌∷◌, ◌++◌, map, refl, sym, ap, ◌∙◌}
use Rattle.pale_syntax.specs.declared.tree.names.Path.{Path}
use Rattle.pale_syntax.specs.declared.tree.assertion.Assertion.{Assertion, out-Assertion, roll-Assertion, out-roll-Assertion}
use Rattle.pale_syntax.specs.declared.tree.assertion.Assertion.TheVariants as assertion
use Rattle.pale_syntax.specs.declared.tree.assertion.Assertion.TheVariants.{rolls-True, rolls-False, rolls-Truth, rolls-Same}
use Rattle.pale_syntax.specs.declared.tree.assertion.Assertion.TheVariants.{rolls-Differ, rolls-Member, rolls-Subset, rolls-Walk}
use Rattle.pale_syntax.specs.declared.tree.assertion.Assertion.TheVariants.{rolls-Is, rolls-Use, rolls-Not, rolls-And, rolls-Or}
use Rattle.pale_syntax.specs.declared.tree.assertion.Assertion.TheVariants.{rolls-Imp, rolls-Iff, rolls-Quantified}
use Rattle.pale_syntax.specs.declared.tree.assertion.Assertion.TheOpen.{Assertion-F}
use Rattle.pale_syntax.specs.declared.tree.assertion.Assertion.TheFolds.{fold-roll-Assertion, ind-Assertion, map-Assertion}
use Rattle.pale_syntax.specs.MakingAssertions.{alone_in, and_by, both, either, equivalent, iff_by, or_by, path_alone}
use Rattle.pale_print.specs.Placeless.{nowhere, placeless_name, placeless_path, placeless_term, placeless_route}
use Rattle.pale_print.specs.Placeless.{placeless_quantifier, placeless_assertion_node, placeless_assertion}
use Rattle.pale_print_laws.specs.CanonicalAssertions.{is_and_node, is_or_node, is_iff_node}

-- what is known of every opened assertion is known of every assertion
pub opened_assertion : (P : Assertion → Type 0) → ((x : Assertion-F Assertion) → P (roll-Assertion x)) → (r : Assertion) → P r
opened_assertion P h = ind-Assertion P (λ x y is. h x)

-- an opened assertion without its places
unfoldable pub shape : Assertion-F Assertion → Assertion-F Assertion
shape Assertion-F.True = Assertion-F.True
shape Assertion-F.False = Assertion-F.False
shape (Assertion-F.Truth p) = Assertion-F.Truth (placeless_path p)
shape (Assertion-F.Same t place u) = Assertion-F.Same (placeless_term t) nowhere (placeless_term u)
shape (Assertion-F.Differ t place u) = Assertion-F.Differ (placeless_term t) nowhere (placeless_term u)
shape (Assertion-F.Member t place set) = Assertion-F.Member (placeless_term t) nowhere (placeless_name set)
shape (Assertion-F.Subset t place set) = Assertion-F.Subset (placeless_term t) nowhere (placeless_name set)
shape (Assertion-F.Walk t place r u) = Assertion-F.Walk (placeless_term t) nowhere (placeless_route r) (placeless_term u)
shape (Assertion-F.Is t place variant) = Assertion-F.Is (placeless_term t) nowhere (placeless_name variant)
shape (Assertion-F.Use predicate arguments) = Assertion-F.Use (placeless_name predicate) (map placeless_path arguments)
shape (Assertion-F.Not place inner) = Assertion-F.Not nowhere inner
shape (Assertion-F.And first others) = Assertion-F.And first others
shape (Assertion-F.Or first others) = Assertion-F.Or first others
shape (Assertion-F.Imp left place right) = Assertion-F.Imp left nowhere right
shape (Assertion-F.Iff first others) = Assertion-F.Iff first others
shape (Assertion-F.Quantified q inner) = Assertion-F.Quantified (placeless_quantifier q) inner

rolled : (x : Assertion-F Assertion) → placeless_assertion_node x ≡ roll-Assertion (shape x)
unfolding shape
rolled Assertion-F.True = sym (rolls-True)
rolled Assertion-F.False = sym (rolls-False)
rolled (Assertion-F.Truth p) = sym (rolls-Truth (placeless_path p))
rolled (Assertion-F.Same t place u) = sym (rolls-Same (placeless_term t) nowhere (placeless_term u))
rolled (Assertion-F.Differ t place u) = sym (rolls-Differ (placeless_term t) nowhere (placeless_term u))
rolled (Assertion-F.Member t place set) = sym (rolls-Member (placeless_term t) nowhere (placeless_name set))
rolled (Assertion-F.Subset t place set) = sym (rolls-Subset (placeless_term t) nowhere (placeless_name set))
rolled (Assertion-F.Walk t place r u) = sym (rolls-Walk (placeless_term t) nowhere (placeless_route r) (placeless_term u))
rolled (Assertion-F.Is t place variant) = sym (rolls-Is (placeless_term t) nowhere (placeless_name variant))
rolled (Assertion-F.Use predicate arguments) = sym (rolls-Use (placeless_name predicate) (map placeless_path arguments))
rolled (Assertion-F.Not place inner) = sym (rolls-Not nowhere inner)
rolled (Assertion-F.And first others) = sym (rolls-And first others)
rolled (Assertion-F.Or first others) = sym (rolls-Or first others)
rolled (Assertion-F.Imp left place right) = sym (rolls-Imp left nowhere right)
rolled (Assertion-F.Iff first others) = sym (rolls-Iff first others)
rolled (Assertion-F.Quantified q inner) = sym (rolls-Quantified (placeless_quantifier q) inner)

pub placeless-out : (x : Assertion-F Assertion) →
    out-Assertion (placeless_assertion (roll-Assertion x)) ≡ shape (map-Assertion Assertion Assertion placeless_assertion x)
unfolding placeless_assertion
placeless-out x =
    ap out-Assertion
    (fold-roll-Assertion Assertion placeless_assertion_node x ∙ rolled (map-Assertion Assertion Assertion placeless_assertion x))
    ∙ out-roll-Assertion _

and_by-first : (x : Assertion-F Assertion) → is_and_node x ≡ false → (one : Assertion) (other : Assertion) → and_by x one other ≡ assertion.And one (other ∷ [])
and_by-first (Assertion-F.And first others) is one other = absurd (cc is)
and_by-first _ is one other = refl

is_and_node-shape : (x : Assertion-F Assertion) → is_and_node (shape (map-Assertion Assertion Assertion placeless_assertion x)) ≡ is_and_node x
unfolding shape
is_and_node-shape (Assertion-F.And first others) = refl
is_and_node-shape _ = refl

pub both-first : (first : Assertion) → is_and_node (out-Assertion first) ≡ false → (other : Assertion) →
    both (placeless_assertion first) other ≡ assertion.And (placeless_assertion first) (other ∷ [])
both-first =
    opened_assertion (λ first. is_and_node (out-Assertion first) ≡ false → (other : Assertion) → both (placeless_assertion first)
    other ≡ assertion.And (placeless_assertion first) (other ∷ [])) (λ x is other.
    and_by-first (out-Assertion (placeless_assertion (roll-Assertion x)))
    (ap is_and_node (placeless-out x) ∙ is_and_node-shape x ∙ sym (ap is_and_node (out-roll-Assertion x)) ∙ is) (placeless_assertion (roll-Assertion x)) other)

pub both-more : (first : Assertion) (done : List Assertion) (other : Assertion) →
    both (assertion.And first done) other ≡ assertion.And first (done ++ other ∷ [])
both-more first done other =
    ap (λ (x : Assertion-F Assertion). and_by x (assertion.And first done) other)
    (ap out-Assertion (sym (rolls-And first done)) ∙ out-roll-Assertion _)

or_by-first : (x : Assertion-F Assertion) → is_or_node x ≡ false → (one : Assertion) (other : Assertion) → or_by x one other ≡ assertion.Or one (other ∷ [])
or_by-first (Assertion-F.Or first others) is one other = absurd (cc is)
or_by-first _ is one other = refl

is_or_node-shape : (x : Assertion-F Assertion) → is_or_node (shape (map-Assertion Assertion Assertion placeless_assertion x)) ≡ is_or_node x
unfolding shape
is_or_node-shape (Assertion-F.Or first others) = refl
is_or_node-shape _ = refl

pub either-first : (first : Assertion) → is_or_node (out-Assertion first) ≡ false → (other : Assertion) →
    either (placeless_assertion first) other ≡ assertion.Or (placeless_assertion first) (other ∷ [])
either-first =
    opened_assertion (λ first. is_or_node (out-Assertion first) ≡ false → (other : Assertion) → either
    (placeless_assertion first) other ≡ assertion.Or (placeless_assertion first) (other ∷ [])) (λ x is other.
    or_by-first (out-Assertion (placeless_assertion (roll-Assertion x)))
    (ap is_or_node (placeless-out x) ∙ is_or_node-shape x ∙ sym (ap is_or_node (out-roll-Assertion x)) ∙ is) (placeless_assertion (roll-Assertion x)) other)

pub either-more : (first : Assertion) (done : List Assertion) (other : Assertion) →
    either (assertion.Or first done) other ≡ assertion.Or first (done ++ other ∷ [])
either-more first done other =
    ap (λ (x : Assertion-F Assertion). or_by x (assertion.Or first done) other)
    (ap out-Assertion (sym (rolls-Or first done)) ∙ out-roll-Assertion _)

iff_by-first : (x : Assertion-F Assertion) → is_iff_node x ≡ false → (one : Assertion) (other : Assertion) → iff_by x one other ≡ assertion.Iff one (other ∷ [])
iff_by-first (Assertion-F.Iff first others) is one other = absurd (cc is)
iff_by-first _ is one other = refl

is_iff_node-shape : (x : Assertion-F Assertion) → is_iff_node (shape (map-Assertion Assertion Assertion placeless_assertion x)) ≡ is_iff_node x
unfolding shape
is_iff_node-shape (Assertion-F.Iff first others) = refl
is_iff_node-shape _ = refl

pub equivalent-first : (first : Assertion) → is_iff_node (out-Assertion first) ≡ false → (other : Assertion) →
    equivalent (placeless_assertion first) other ≡ assertion.Iff (placeless_assertion first) (other ∷ [])
equivalent-first =
    opened_assertion (λ first. is_iff_node (out-Assertion first) ≡ false → (other : Assertion) → equivalent
    (placeless_assertion first) other ≡ assertion.Iff (placeless_assertion first) (other ∷ [])) (λ x is other.
    iff_by-first (out-Assertion (placeless_assertion (roll-Assertion x)))
    (ap is_iff_node (placeless-out x) ∙ is_iff_node-shape x ∙ sym (ap is_iff_node (out-roll-Assertion x)) ∙ is) (placeless_assertion (roll-Assertion x)) other)

pub equivalent-more : (first : Assertion) (done : List Assertion) (other : Assertion) →
    equivalent (assertion.Iff first done) other ≡ assertion.Iff first (done ++ other ∷ [])
equivalent-more first done other =
    ap (λ (x : Assertion-F Assertion). iff_by x (assertion.Iff first done) other)
    (ap out-Assertion (sym (rolls-Iff first done)) ∙ out-roll-Assertion _)

pub path-alone : (p : Path) → path_alone (assertion.Truth p) ≡ p
path-alone p = ap alone_in (ap out-Assertion (sym (rolls-Truth p)) ∙ out-roll-Assertion _)
