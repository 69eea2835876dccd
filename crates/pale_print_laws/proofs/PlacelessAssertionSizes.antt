-- Assertions have as many tokens without their places.
use Rattle.std.proofs.Common.{◌≡◌, ℕ, suc, ◌+◌, nat_lt, Bool, true, false, List, [], ◌∷◌, map, refl, sym, ap, ◌∙◌, subst, arith}
use Rattle.pale_syntax.specs.declared.tree.names.Name.{Name}
use Rattle.pale_syntax.specs.declared.tree.names.Path.{Path}
use Rattle.pale_syntax.specs.declared.tree.assertion.Assertion.{Assertion, roll-Assertion}
use Rattle.pale_syntax.specs.declared.tree.assertion.Assertion.TheOpen.{Assertion-F}
use Rattle.pale_syntax.specs.declared.tree.assertion.Assertion.TheFolds.{fold-roll-Assertion, ind-Assertion, map-Assertion}
use denote.Hole.Carrier.{roll}
use Rattle.pale_print.specs.Placeless.{nowhere, placeless_name, placeless_path, placeless_term, placeless_route}
use Rattle.pale_print.specs.Placeless.{placeless_quantifier, placeless_assertion_node, placeless_assertion}
use Rattle.pale_print_laws.proofs.AssertionSizes.{OperandSize, grouped_size, goes_on, operands_size, chain_size, paths_size}
use Rattle.pale_print_laws.proofs.AssertionSizes.{used_size, bound_size, quantified_size, size_node, assertion_size, sized_at}
use Rattle.pale_print_laws.proofs.AssertionSizes.{form}
use Rattle.pale_print_laws.proofs.PlacelessSizes.{names_same, path_same, term_same, route_same}

paths_same : (ps : List Path) → paths_size (map placeless_path ps) ≡ paths_size ps
paths_same [] = refl
paths_same (p ∷ ps) = let e = path_same p in let more = paths_same ps in omega arith

used_same : (ps : List Path) → used_size (map placeless_path ps) ≡ used_size ps
used_same [] = refl
used_same (p ∷ ps) = let e = path_same p in let more = paths_same ps in omega arith

bound_same : (xs : List Name) → bound_size (map placeless_name xs) ≡ bound_size xs
bound_same [] = refl
bound_same (x ∷ xs) = ap suc (names_same xs)

abbrev Same : Assertion → Type 0
Same a = (asked : ℕ) (followed : Bool) → assertion_size (placeless_assertion a) asked followed ≡ assertion_size a asked followed

abbrev Known : Type 0
Known = (a : Assertion) × Same a

abbrev trees : List Known → List Assertion
trees others = map (λ (e : Known). e.0) others

one_same : (one : Known) (asked : ℕ) (others : List Known) (followed : Bool) →
    assertion_size (placeless_assertion one.0) asked (goes_on (map assertion_size (map placeless_assertion (trees others))) followed) ≡
    assertion_size one.0 asked (goes_on (map assertion_size (trees others)) followed)
one_same one asked [] followed = one.1 asked followed
one_same one asked (next ∷ others) followed = one.1 asked true

operands_same : (asked : ℕ) (others : List Known) (followed : Bool) →
    operands_size asked (map assertion_size (map placeless_assertion (trees others))) followed ≡ operands_size asked
    (map assertion_size (trees others)) followed
operands_same asked [] followed = refl
operands_same asked (one ∷ others) followed =
    let e = one_same one asked others followed in
    let more = operands_same asked others followed in
    omega arith

chain_same : (asked : ℕ) (first : Known) (others : List Known) (followed : Bool) →
    chain_size asked (assertion_size (placeless_assertion first.0)) (map assertion_size (map placeless_assertion (trees others))) followed ≡
    chain_size asked (assertion_size first.0) (map assertion_size (trees others)) followed
chain_same asked first others followed =
    let e = one_same first asked others followed in
    let more = operands_same asked others followed in
    omega arith

grouped_same : (needed : Bool) (c d : Bool → ℕ) → ((followed : Bool) → c followed ≡ d followed) → (followed : Bool) →
    grouped_size needed c followed ≡ grouped_size needed d followed
grouped_same true c d h followed = ap (λ (n : ℕ). suc (suc n)) (h false)
grouped_same false c d h followed = h followed

node_same : (y : Assertion-F Known) (asked : ℕ) (followed : Bool) →
    assertion_size
    (placeless_assertion_node (map-Assertion Assertion Assertion placeless_assertion (map-Assertion Known Assertion (λ e. e.0) y)))
    asked followed ≡
    size_node (map-Assertion Assertion OperandSize assertion_size (map-Assertion Known Assertion (λ e. e.0) y)) asked followed
unfolding roll-Assertion roll
node_same Assertion-F.True asked f = form Assertion-F.True asked f
node_same Assertion-F.False asked f = form Assertion-F.False asked f
node_same (Assertion-F.Truth p) asked f = form (Assertion-F.Truth (placeless_path p)) asked f ∙ path_same p
node_same (Assertion-F.Same t place u) asked f =
    omega (arith, form (Assertion-F.Same (placeless_term t) nowhere (placeless_term u)) asked f, term_same t, term_same u)
node_same (Assertion-F.Differ t place u) asked f =
    omega (arith, form (Assertion-F.Differ (placeless_term t) nowhere (placeless_term u)) asked f, term_same t, term_same u)
node_same (Assertion-F.Member t place set) asked f =
    omega (arith, form (Assertion-F.Member (placeless_term t) nowhere (placeless_name set)) asked f, term_same t)
node_same (Assertion-F.Subset t place set) asked f =
    omega (arith, form (Assertion-F.Subset (placeless_term t) nowhere (placeless_name set)) asked f, term_same t)
node_same (Assertion-F.Walk t place r u) asked f =
    omega (arith, form (Assertion-F.Walk (placeless_term t) nowhere (placeless_route r) (placeless_term u)) asked f, term_same t, term_same u, route_same r 0)
node_same (Assertion-F.Is t place variant) asked f =
    omega (arith, form (Assertion-F.Is (placeless_term t) nowhere (placeless_name variant)) asked f, term_same t)
node_same (Assertion-F.Use predicate arguments) asked f =
    omega (arith, form (Assertion-F.Use (placeless_name predicate) (map placeless_path arguments)) asked f, used_same arguments)
node_same (Assertion-F.Not place inner) asked f = omega (arith, form (Assertion-F.Not nowhere (placeless_assertion inner.0)) asked f, inner.1 4 f)
node_same (Assertion-F.And first others) asked f =
    form (Assertion-F.And (placeless_assertion first.0) (map placeless_assertion (trees others))) asked f
    ∙ grouped_same (nat_lt 3 asked) _ _ (λ then. chain_same 4 first others then) f
node_same (Assertion-F.Or first others) asked f =
    form (Assertion-F.Or (placeless_assertion first.0) (map placeless_assertion (trees others))) asked f
    ∙ grouped_same (nat_lt 2 asked) _ _ (λ then. chain_same 3 first others then) f
node_same (Assertion-F.Imp left place right) asked f =
    form (Assertion-F.Imp (placeless_assertion left.0) nowhere (placeless_assertion right.0)) asked f ∙
    grouped_same (nat_lt 1 asked) (λ then. assertion_size (placeless_assertion left.0) 2 true + suc (assertion_size (placeless_assertion right.0) 1 then))
    (λ then. assertion_size left.0 2 true + suc (assertion_size right.0 1 then)) (λ then. omega (arith, left.1 2 true, right.1 1 then)) f
node_same (Assertion-F.Iff first others) asked f =
    form (Assertion-F.Iff (placeless_assertion first.0) (map placeless_assertion (trees others))) asked f
    ∙ grouped_same (nat_lt 0 asked) _ _ (λ then. chain_same 1 first others then) f
node_same (Assertion-F.Quantified q inner) asked f =
    form (Assertion-F.Quantified (placeless_quantifier q) (placeless_assertion inner.0)) asked f ∙
    grouped_same f (quantified_size (placeless_quantifier q) (assertion_size (placeless_assertion inner.0))) (quantified_size q (assertion_size inner.0))
    (λ then. omega (arith, bound_same q.names, inner.1 0 then)) f

opened_placeless : (x : Assertion-F Assertion) →
    placeless_assertion (roll-Assertion x) ≡ placeless_assertion_node (map-Assertion Assertion Assertion placeless_assertion x)
unfolding placeless_assertion
opened_placeless x = fold-roll-Assertion Assertion placeless_assertion_node x

pub assertion_same : (a : Assertion) (asked : ℕ) (followed : Bool) → assertion_size (placeless_assertion a) asked followed ≡ assertion_size a asked followed
assertion_same = ind-Assertion Same (λ x y is asked followed.
    ap (λ (a : Assertion). assertion_size a asked followed) (opened_placeless x) ∙
    subst (λ (z : Assertion-F Assertion). assertion_size (placeless_assertion_node (map-Assertion Assertion Assertion placeless_assertion z)) asked followed ≡
    size_node (map-Assertion Assertion OperandSize assertion_size z) asked followed) is (node_same y asked followed) ∙
    sym (ap (λ (s : OperandSize). s asked followed) (sized_at x)))
